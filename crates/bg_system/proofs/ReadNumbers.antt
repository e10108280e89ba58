-- Numbers behind words, and the marks that end them.
use Rattle.std.proofs.Common.{◌≡◌, ◌≢◌, ◌∙◌, ℕ, ◌<◌, ◌^◌, true, List, ◌∷◌, ◌++◌, length, get_or}
use Rattle.std.proofs.Common.{sym, ap, arith}
use Rattle.std.specs.Fmt.{decimal}
use Rattle.std.specs.Str.{all_ascii_digits}
use Rattle.std.specs.Str.Parse.{digits_value}
use Rattle.std.specs.Str.Pattern.{FindsTextPrefix, StripsPrefix}
use Rattle.std.proofs.lemmas.Fmt.{digits_decimal}
use Rattle.std.proofs.lemmas.List.{append_cancel_left}
use Rattle.std.proofs.lemmas.Str.Parse.{IsNumeralModel, not_in_digits, numerals_by_value, tells_all_ascii_digits}
use Rattle.bg_system.specs.Numbers.{BeginsWith}

own : IsNumeralModel (λ ds. all_ascii_digits ds ≡ true) (digits_value 10)
own = numerals_by_value (λ ds. all_ascii_digits ds ≡ true) tells_all_ascii_digits

-- no digit of a number is the mark that ends it
pub no_mark : (mark n : ℕ) → mark < 48 → n < 2 ^ 64 → (i : ℕ) → i < length (decimal n) → get_or (decimal n) i 0 ≢ mark
no_mark mark n low small =
    not_in_digits own (decimal n) mark (digits_decimal own n small) (λ digit. absurd (omega (arith, digit.0, low)))

-- a text is the word that was taken off its front, and what is left
pub taken_off : (word text left : List ℕ) → StripsPrefix (FindsTextPrefix word) text left → text ≡ word ++ left
taken_off word text left strips = strips.1.1 ∙ ap (λ (rest : List ℕ). word ++ rest) (sym strips.2)

-- what is left of a text that begins with a word and a number
pub left_over : (word text left : List ℕ) (n mark : ℕ) (rest : List ℕ) → StripsPrefix (FindsTextPrefix word) text left
    → BeginsWith text word n mark rest → left ≡ decimal n ++ mark ∷ rest
left_over word text left n mark rest strips begins =
    append_cancel_left word left (decimal n ++ mark ∷ rest) (sym (taken_off word text left strips) ∙ begins)
