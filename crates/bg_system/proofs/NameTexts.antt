-- The lines of names, in texts that go on behind them.
use Rattle.std.proofs.Common.{◌≡◌, ◌≢◌, ◌∙◌, ℕ, ◌<◌, Bool, true, false, not, ◌||◌, List, [], ◌∷◌, ◌++◌, Option, Some, None, IfSome, IfNone, Bor, if◌then◌else◌, codes, length, get_or, ap, append_assoc, arith, refl, subst, sym}
use Rattle.std.specs.List.{list_any}
use Rattle.std.specs.Str.{NoCharPasses, NonePass, chars}
use Rattle.std.specs.Str.Pattern.{FindsTextPrefix}
use Rattle.std.proofs.lemmas.List.{append_cancel_left}
use Rattle.std.proofs.lemmas.Str.{NoCharPasses-byte, encodes-chars}
use Rattle.std.proofs.lemmas.Str.Pattern.{IsSplitOnceResult, split_after}
use Rattle.bg_system.specs.Names.{IsName, has_outer_blank, is_unseen, name_fault}
use Rattle.bg_system.specs.NameLines.{IsPastNames, LacksWord, name_line, names_text}
use Rattle.bg_system.specs.declared.files.name_lines.Names.{Names}
use Rattle.bg_system.specs.declared.files.names.NameFault.{NameFault}
use Rattle.bg_system.specs.declared.files.names.NameFault.TheVariants.{Length, Character, Blank}
use Rattle.bg_system.proofs.NameBytes.{no_first}
use Rattle.std.specs.Int.{is_in_range}

-- where one of two tests passes nothing, neither does
neither : (a b : Bool) → (a || b) ≡ false → (a ≡ false) × (b ≡ false)
neither true b is = absurd (cc is)
neither false b is = (refl, is)

none_passes : (test : ℕ → Bool) (cs : List ℕ) → list_any test cs ≡ false → NonePass test cs
none_passes test [] is = tt
none_passes test (c ∷ cs) is =
    let both = neither (test c) (list_any test cs) is in (both.0, none_passes test cs both.1)

-- no character of a name is unseen
all_seen : (text : List ℕ) → IsName text → NoCharPasses is_unseen text
all_seen text name =
    let second = no_first (not (is_in_range 1 64 (length text))) Length
    (if list_any is_unseen (chars text) then Some Character else if has_outer_blank text then Some Blank else None) name.fine in
    let third = no_first (list_any is_unseen (chars text)) Character (if has_outer_blank text then Some Blank else None) second.1 in
    (chars text, encodes-chars text name.valid, none_passes is_unseen (chars text) third.0)

-- so no byte of a name is a line feed
no_feed : (text : List ℕ) → IsName text → (i : ℕ) → i < length text → get_or text i 0 ≢ 10
no_feed text name i inside is =
    let seen = NoCharPasses-byte is_unseen text i (all_seen text name) inside (omega (arith, is)) in
    let feed : is_unseen 10 ≡ false = subst (λ (c : ℕ). is_unseen c ≡ false) is seen in
    absurd (cc feed)

line_parts : (word name rest : List ℕ) → name_line word (Some name) ++ rest ≡ word ++ (name ++ 10 ∷ rest)
line_parts word name rest = simp append_assoc refl

-- a text that does not begin with the word has no name behind it
pub no_word : (word text : List ℕ) → FindsTextPrefix word text None → (name : Option (List ℕ)) (rest : List ℕ)
    → text ≡ name_line word name ++ rest → (None ≡ name) × (text ≡ rest)
no_word word text lacks None rest is = (refl, is)
no_word word text lacks (Some name) rest is = absurd (lacks (name ++ 10 ∷ rest) (is ∙ line_parts word name rest))

-- what stands behind the word in a text that begins with the line of a name
behind_word : (word text behind : List ℕ) → text ≡ word ++ behind → (name : List ℕ) (rest : List ℕ)
    → text ≡ name_line word (Some name) ++ rest → behind ≡ name ++ 10 ∷ rest
behind_word word text behind off name rest is =
    append_cancel_left word behind (name ++ 10 ∷ rest) (sym off ∙ is ∙ line_parts word name rest)

-- a line without its end says no name
pub no_end : (word text behind : List ℕ) → text ≡ word ++ behind → IsSplitOnceResult 10 behind None
    → (name : Option (List ℕ)) (rest : List ℕ) → IfSome name IsName → IfNone name (LacksWord word rest)
    → text ≡ name_line word name ++ rest → ⊥
no_end word text behind off split None rest fine lacks is = lacks behind (sym is ∙ off)
no_end word text behind off split (Some name) rest fine lacks is =
    split_after 10 behind name rest None split (omega arith) (behind_word word text behind off name rest is) (no_feed name fine)

-- what a line says is the name, and nothing stands between it and the rest
pub this_name : (word text behind : List ℕ) (parts : Bor (List ℕ) × Bor (List ℕ)) → text ≡ word ++ behind
    → IsSplitOnceResult 10 behind (Some parts) → (name : Option (List ℕ)) (rest : List ℕ) → IfSome name IsName
    → IfNone name (LacksWord word rest) → text ≡ name_line word name ++ rest
    → (Some parts.0.now ≡ name) × (parts.1.now ≡ rest)
this_name word text behind parts off split None rest fine lacks is = absurd (lacks behind (sym is ∙ off))
this_name word text behind parts off split (Some name) rest fine lacks is =
    let found = split_after 10 behind name rest (Some parts) split (omega arith) (behind_word word text behind off name rest is) (no_feed name fine) in
    (ap Some found.0, found.1)

-- what is no name is not said
pub other_name : (word text behind : List ℕ) (parts : Bor (List ℕ) × Bor (List ℕ)) (fault : NameFault) → text ≡ word ++ behind
    → IsSplitOnceResult 10 behind (Some parts) → name_fault parts.0.now ≡ Some fault → (name : Option (List ℕ)) (rest : List ℕ)
    → IfSome name IsName → IfNone name (LacksWord word rest) → text ≡ name_line word name ++ rest → ⊥
other_name word text behind parts fault off split wrong None rest fine lacks is = lacks behind (sym is ∙ off)
other_name word text behind parts fault off split wrong (Some name) rest fine lacks is =
    let found = this_name word text behind parts off split (Some name) rest fine lacks is in
    let same : name_fault name ≡ Some fault = subst (λ (o : Option (List ℕ)). IfSome o (λ n. name_fault n ≡ Some fault)) found.0 wrong in
    let both : None ≡ Some fault = sym fine.fine ∙ same in
    absurd (cc both)

-- the text is the line, and what stands behind it
pub line_joined : (word text behind : List ℕ) (parts : Bor (List ℕ) × Bor (List ℕ)) → text ≡ word ++ behind
    → behind ≡ parts.0.now ++ 10 ∷ parts.1.now → text ≡ name_line word (Some parts.0.now) ++ parts.1.now
line_joined word text behind parts off split =
    off ∙ ap (λ (left : List ℕ). word ++ left) split ∙ sym (line_parts word parts.0.now parts.1.now)

-- what is past all names begins with no word of one, also behind the other name
pub lacks_x : (o : Option (List ℕ)) (rest : List ℕ) → IsPastNames rest → LacksWord (codes "name-x ") (name_line (codes "name-o ") o ++ rest)
lacks_x None rest past more is = past (codes "x " ++ more) is
lacks_x (Some name) rest past more is =
    let letters : 111 ≡ 120 = ap (λ (text : List ℕ). get_or text 5 0) is in absurd (omega (arith, letters))

pub lacks_o : (rest : List ℕ) → IsPastNames rest → LacksWord (codes "name-o ") rest
lacks_o rest past more is = past (codes "o " ++ more) is

pub if_none : {A P : Type 0} (o : Option A) → P → IfNone o P
if_none None fact = fact
if_none (Some value) fact = tt

-- the lines of both names, one behind the other
pub names_parts : (names : Names) (rest : List ℕ)
    → names_text names ++ rest ≡ name_line (codes "name-x ") names.x ++ (name_line (codes "name-o ") names.o ++ rest)
names_parts names rest = parts (name_line (codes "name-x ") names.x) (name_line (codes "name-o ") names.o)
  where
    parts : (x o : List ℕ) → (x ++ o) ++ rest ≡ x ++ (o ++ rest)
    parts x o = simp append_assoc refl

-- names of these parts are the same
pub same_names : (names : Names) (x o : Option (List ℕ)) → x ≡ names.x → o ≡ names.o → record { x = x; o = o } ≡ names
same_names names x o one two = rw (one, two) refl

-- and so is the end of a text
pub end_is_past_names : IsPastNames []
end_is_past_names more is = absurd (cc is)
