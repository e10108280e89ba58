-- The parts of a match file.
use Rattle.std.proofs.Common.{true, ◌==◌, length, ◌≡◌, ◌∙◌, ℕ, List, [], ◌∷◌, ◌++◌, codes, ap, append_assoc, arith, refl, sym, Some}
use Rattle.std.specs.Fmt.{decimal}
use Rattle.std.specs.Int.{IsInRange}
use Rattle.std.proofs.lemmas.Bool.Decides.{nat_tests}
use Rattle.bg_match.specs.Terms.{match_length, rules_of}
use Rattle.bg_match.specs.declared.limits.Rules.{Rules}
use Rattle.bg_match.specs.declared.limits.Rules.TheVariants.{One, Two}
use Rattle.bg_system.specs.MatchFiles.{match_text}
use Rattle.bg_system.specs.Numbers.{BeginsWith, rules_number}
use Rattle.bg_system.specs.declared.files.match_files.MatchFile.{MatchFile}

-- what stands behind its rules, its length and its number, in a text that goes on behind it
abbrev pub behind_rules : MatchFile → List ℕ → List ℕ
behind_rules file rest = codes "port " ++ (decimal file.port ++ 10 ∷ rest)

abbrev pub behind_length : MatchFile → List ℕ → List ℕ
behind_length file rest = codes "rules " ++ (decimal (rules_number (rules_of file.terms)) ++ 32 ∷ behind_rules file rest)

abbrev pub behind_number : MatchFile → List ℕ → List ℕ
behind_number file rest = codes "length " ++ (decimal (match_length file.terms) ++ 32 ∷ behind_length file rest)

pub begins : (file : MatchFile) (rest : List ℕ)
    → BeginsWith (match_text file ++ rest) (codes "match ") file.id 32 (behind_number file rest)
begins file rest = parts (decimal file.id) (decimal (match_length file.terms)) (decimal (rules_number (rules_of file.terms))) (decimal file.port)
  where
    parts : (a b c d : List ℕ) → (codes "match " ++ a ++ codes " length " ++ b ++ codes " rules " ++ c ++ codes " port " ++ d ++ codes "\n") ++ rest
        ≡ codes "match " ++ (a ++ 32 ∷ (codes "length " ++ (b ++ 32 ∷ (codes "rules " ++ (c ++ 32 ∷ (codes "port " ++ (d ++ 10 ∷ rest)))))))
    parts a b c d = simp append_assoc refl

-- a text of these parts begins with that of the match
pub joined : (file : MatchFile) (text first second third rest : List ℕ) → BeginsWith text (codes "match ") file.id 32 first
    → BeginsWith first (codes "length ") (match_length file.terms) 32 second
    → BeginsWith second (codes "rules ") (rules_number (rules_of file.terms)) 32 third
    → BeginsWith third (codes "port ") file.port 10 rest → text ≡ match_text file ++ rest
joined file text first second third rest a b c d =
    let rules : second ≡ behind_length file rest =
    c ∙ ap (λ (left : List ℕ). codes "rules " ++ (decimal (rules_number (rules_of file.terms)) ++ 32 ∷ left)) d in
    let length : first ≡ behind_number file rest =
    b ∙ ap (λ (left : List ℕ). codes "length " ++ (decimal (match_length file.terms) ++ 32 ∷ left)) rules in
    a ∙ ap (λ (left : List ℕ). codes "match " ++ (decimal file.id ++ 32 ∷ left)) length ∙ sym (begins file rest)

-- rules have numbers of their own
pub same_rules : (a b : Rules) → rules_number a ≡ rules_number b → a ≡ b
same_rules One One same = refl
same_rules One Two same = absurd (cc same)
same_rules Two One same = absurd (cc same)
same_rules Two Two same = refl

-- and these numbers are 1 and 2
pub some_number : (rules : Rules) → IsInRange 1 2 (rules_number rules)
some_number One = (omega arith, omega arith)
some_number Two = (omega arith, omega arith)

-- a match of these parts is the same
pub same_file : (file : MatchFile) (id length port : ℕ) (rules : Rules) → id ≡ file.id → length ≡ match_length file.terms
    → rules_number rules ≡ rules_number (rules_of file.terms) → port ≡ file.port
    → record { id = id; terms = record { length = length; rules = rules }; port = port } ≡ file
same_file file id length port rules one two three four =
    let named : rules ≡ rules_of file.terms = same_rules rules (rules_of file.terms) three in
    rw (one, two, named, four) refl

-- nothing is left
pub nothing_left : (left : List ℕ) → true ≡ (length left == 0) → left ≡ []
nothing_left [] empty = refl
nothing_left (byte ∷ left) empty = absurd (grind (arith, nat_tests, empty))

pub same_found : (a b : MatchFile) → Some a ≡ Some b → a ≡ b
same_found a b same = cc same
