-- The words of a line: its longest runs of bytes that are not blank.
use Rattle.std.specs.Prelude.{◌≡◌, ◌⊎◌, ◌==◌, ◌||◌, ℕ, suc, ◌<◌, Bool, true, false, List, [], ◌∷◌, ◌++◌, length, map}
use Rattle.std.specs.Prelude.{if◌then◌else◌}
use Rattle.std.specs.Char.{to_ascii_lowercase}
use Rattle.std.specs.List.{All}

-- a space, a tab, or the carriage return before a line feed
abbrev pub is_blank : ℕ → Bool
is_blank byte = byte == 32 || byte == 9 || byte == 13

abbrev pub IsBlankText : List ℕ → Type 0
IsBlankText text = All (λ byte. is_blank byte ≡ true) text

abbrev pub IsSolid : List ℕ → Type 0
IsSolid text = All (λ byte. is_blank byte ≡ false) text

-- how many blanks a text begins with
abbrev pub leading_blanks : List ℕ → ℕ
leading_blanks [] = 0
leading_blanks (byte ∷ rest) = if is_blank byte then suc (leading_blanks rest) else 0

-- a word ends here: at the end, or at a blank
abbrev pub EndsWord : List ℕ → Type 0
EndsWord [] = Unit {0}
EndsWord (byte ∷ rest) = is_blank byte ≡ true

-- no blank begins the text
abbrev pub BeginsSolid : List ℕ → Type 0
BeginsSolid [] = Unit {0}
BeginsSolid (byte ∷ rest) = is_blank byte ≡ false

-- no blank ends the text
abbrev pub EndsSolid : List ℕ → Type 0
EndsSolid [] = Unit {0}
EndsSolid (byte ∷ []) = is_blank byte ≡ false
EndsSolid (byte ∷ next ∷ rest) = EndsSolid (next ∷ rest)

-- the first word of a text, and what follows it
pub record IsFirstWord (text word rest : List ℕ) : Type 0 where
  pub blanks : List ℕ
  pub blank : IsBlankText blanks
  pub some : 0 < length word
  pub solid : IsSolid word
  pub ends : EndsWord rest
  pub spelled : text ≡ blanks ++ word ++ rest

-- the text begins with these words, and then comes the rest
abbrev pub BeginsWith : List ℕ → List (List ℕ) → List ℕ → Type 0
BeginsWith text [] rest = text ≡ rest
BeginsWith text (word ∷ words) rest =
    (after : List ℕ) × IsFirstWord text word after × BeginsWith after words rest

-- the same letters, each as a capital or not
abbrev pub SameLetters : List ℕ → List ℕ → Type 0
SameLetters word other = map to_ascii_lowercase word ≡ map to_ascii_lowercase other

-- the word is one of these two
abbrev pub IsEither : List ℕ → List ℕ → List ℕ → Type 0
IsEither word one other = SameLetters word one ⊎ SameLetters word other

-- the first word of a text is this one, in capitals or not, and then comes the rest
pub record Says (text said rest : List ℕ) : Type 0 where
  pub word : List ℕ
  pub first : IsFirstWord text word rest
  pub same : SameLetters word said

-- the first word of a text is one of these two, as `Take` or `Takes`
abbrev pub SaysEither : List ℕ → List ℕ → List ℕ → List ℕ → Type 0
SaysEither text one other rest = Says text one rest ⊎ Says text other rest

-- the text begins with these words, in capitals or not
abbrev pub SaysAll : List ℕ → List (List ℕ) → List ℕ → Type 0
SaysAll text [] rest = text ≡ rest
SaysAll text (word ∷ words) rest = (after : List ℕ) × Says text word after × SaysAll after words rest
