-- Numbers of up to four digits.
use Rattle.std.specs.Prelude.{◌≡◌, ℕ, ◌≤◌, true, false, List, [], ◌∷◌, length, IsTrue}
use Rattle.std.specs.Char.{is_ascii_digit}
use Rattle.std.specs.List.{All}
use Rattle.std.specs.Str.{all_ascii_digits}
use Rattle.std.specs.Str.Parse.{digits_value}

-- all bytes are digits
abbrev pub IsDigits : List ℕ → Type 0
IsDigits text = All (λ byte. is_ascii_digit byte ≡ true) text

-- no digit begins the text
abbrev pub BeginsNoDigit : List ℕ → Type 0
BeginsNoDigit [] = Unit {0}
BeginsNoDigit (byte ∷ rest) = is_ascii_digit byte ≡ false

-- the word is the number in one to four digits
pub record IsNumber (word : List ℕ) (n : ℕ) : Type 0 where
  pub digits : IsTrue (all_ascii_digits word)
  pub some : 1 ≤ length word
  pub few : length word ≤ 4
  pub value : n ≡ digits_value 10 word
