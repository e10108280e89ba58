-- The parts of a key file.
use Rattle.std.proofs.Common.{◌≡◌, ◌∙◌, ℕ, List, ◌∷◌, ◌++◌, Some, codes, get_or, ap, append_assoc, arith, refl, sym}
use Rattle.std.specs.Fmt.{decimal}
use Rattle.hex.specs.Hex.{encode_lower}
use Rattle.bg_system.specs.KeyFiles.{IsKeyFile, key_file_text}
use Rattle.bg_system.specs.MatchFiles.{match_text}
use Rattle.bg_system.specs.NameLines.{IsPastNames, names_text}
use Rattle.bg_system.specs.NamedMatches.{IsNamedMatch, named_match_text}
use Rattle.bg_system.specs.Numbers.{BeginsWith}
use Rattle.bg_system.specs.declared.files.key_files.KeyFile.{KeyFile}
use Rattle.bg_system.specs.declared.files.match_files.MatchFile.{MatchFile}
use Rattle.bg_system.specs.declared.files.name_lines.Names.{Names}
use Rattle.bg_system.specs.declared.files.named_matches.NamedMatch.{NamedMatch}

-- what stands behind the party, and behind the match
abbrev pub behind_party : KeyFile → List ℕ
behind_party file = encode_lower file.key ++ codes "\n"

abbrev pub behind_match : KeyFile → List ℕ
behind_match file = codes "key " ++ (decimal file.party ++ 32 ∷ behind_party file)

-- the match, with its names
abbrev pub match_of : KeyFile → NamedMatch
match_of file = record { table = file.table; names = file.names }

pub goes_on : (file : KeyFile) → key_file_text file ≡ named_match_text (match_of file) ++ behind_match file
goes_on file = parts (match_text file.table) (names_text file.names) (decimal file.party) (encode_lower file.key)
  where
    parts : (table names party key : List ℕ) → table ++ names ++ codes "key " ++ party ++ codes " " ++ key ++ codes "\n"
        ≡ (table ++ names) ++ (codes "key " ++ (party ++ 32 ∷ (key ++ codes "\n")))
    parts table names party key = simp append_assoc refl

pub is_match : (file : KeyFile) → IsKeyFile file → IsNamedMatch (match_of file)
is_match file fine = record { of_match = fine.of_match; named = fine.named }

-- what stands behind the match begins with no line of a name
pub is_past_names : (file : KeyFile) → IsPastNames (behind_match file)
is_past_names file more is =
    let letters : 107 ≡ 110 = ap (λ (text : List ℕ). get_or text 0 0) is in absurd (omega (arith, letters))

-- a text of these parts is that of the file
pub key_joined : (file : KeyFile) (text first second : List ℕ) → text ≡ named_match_text (match_of file) ++ first
    → BeginsWith first (codes "key ") file.party 32 second → second ≡ behind_party file → text ≡ key_file_text file
key_joined file text first second a b c =
    let behind : first ≡ behind_match file = b ∙ ap (λ (left : List ℕ). codes "key " ++ (decimal file.party ++ 32 ∷ left)) c in
    a ∙ ap (λ (left : List ℕ). named_match_text (match_of file) ++ left) behind ∙ sym (goes_on file)

-- a file of these parts is the same
pub same_key_file : (file : KeyFile) (table : MatchFile) (names : Names) (party : ℕ) (key : List ℕ)
    → record { table = table; names = names } ≡ match_of file → party ≡ file.party → key ≡ file.key
    → record { table = table; names = names; party = party; key = key } ≡ file
same_key_file file table names party key one two three =
    let of_match : table ≡ file.table = ap (λ (m : NamedMatch). m.table) one in
    let named : names ≡ file.names = ap (λ (m : NamedMatch). m.names) one in
    rw (of_match, named, two, three) refl

pub same_found_key : (a b : KeyFile) → Some a ≡ Some b → a ≡ b
same_found_key a b same = cc same
