-- The words of a line, which are its bytes without the digits, and the number that its digits
-- write.
use Rattle.std.proofs.Common.{Bool, true, false, ◌≡◌, ℕ, ◌<◌, List, [], ◌∷◌, ◌++◌, length, refl, sym, ◌∙◌, ap, subst, arith}
use Rattle.std.specs.Prelude.{◌==◌, if◌then◌else◌, not}
use Rattle.std.specs.Char.{is_ascii_digit}
use Rattle.std.specs.Fmt.{decimal}
use Rattle.std.specs.Str.{all_ascii_digits}
use Rattle.std.specs.Str.Parse.{digits_value}
use Rattle.std.proofs.lemmas.Bool.{and_parts}
use Rattle.std.proofs.lemmas.Fmt.{decimal_nonempty, digits_decimal, digits_value-decimal}
use Rattle.bg_world.specs.Texts.OutcomeText.{FitsIn64Bits}
use Rattle.bg_world.proofs.Lines.Digits.{own}

abbrev pub words : List ℕ → List ℕ
words [] = []
words (c ∷ text) = if is_ascii_digit c then words text else c ∷ words text

abbrev pub digits : List ℕ → List ℕ
digits [] = []
digits (c ∷ text) = if is_ascii_digit c then c ∷ digits text else digits text

abbrev pub number : List ℕ → ℕ
number text = digits_value 10 (digits text)

-- whether two texts are the same, by computing
abbrev pub same : List ℕ → List ℕ → Bool
same [] [] = true
same (c ∷ text) (d ∷ other) = if c == d then same text other else false
same _ _ = false

-- ---- of two texts

append_by_test : (t : Bool) (c : ℕ) (a b : List ℕ) → words (a ++ b) ≡ words a ++ words b
    → (if t then words (a ++ b) else c ∷ words (a ++ b)) ≡ (if t then words a else c ∷ words a) ++ words b
append_by_test true c a b e = e
append_by_test false c a b e = ap (λ (t : List ℕ). c ∷ t) e

words_append : (a b : List ℕ) → words (a ++ b) ≡ words a ++ words b
words_append [] b = refl
words_append (c ∷ a) b = append_by_test (is_ascii_digit c) c a b (words_append a b)

digits_by_test : (t : Bool) (c : ℕ) (a b : List ℕ) → digits (a ++ b) ≡ digits a ++ digits b
    → (if t then c ∷ digits (a ++ b) else digits (a ++ b)) ≡ (if t then c ∷ digits a else digits a) ++ digits b
digits_by_test true c a b e = ap (λ (t : List ℕ). c ∷ t) e
digits_by_test false c a b e = e

digits_append : (a b : List ℕ) → digits (a ++ b) ≡ digits a ++ digits b
digits_append [] b = refl
digits_append (c ∷ a) b = digits_by_test (is_ascii_digit c) c a b (digits_append a b)

-- ---- of digits

no_words : (ds : List ℕ) → all_ascii_digits ds ≡ true → words ds ≡ []
no_words [] h = refl
no_words (d ∷ ds) h =
    let k = and_parts (is_ascii_digit d) (all_ascii_digits ds) h in
    ap (λ (b : Bool). if b then words ds else d ∷ words ds) k.0 ∙ no_words ds k.1

all_digits : (ds : List ℕ) → all_ascii_digits ds ≡ true → digits ds ≡ ds
all_digits [] h = refl
all_digits (d ∷ ds) h =
    let k = and_parts (is_ascii_digit d) (all_ascii_digits ds) h in
    ap (λ (b : Bool). if b then d ∷ digits ds else digits ds) k.0 ∙ ap (λ (t : List ℕ). d ∷ t) (all_digits ds k.1)

-- ---- of a number

pub are_digits : (n : ℕ) → FitsIn64Bits n → all_ascii_digits (decimal n) ≡ true
are_digits n low = digits_decimal own n (omega (arith, low))

pub words_of_number : (n : ℕ) → FitsIn64Bits n → words (decimal n) ≡ []
words_of_number n low = no_words (decimal n) (are_digits n low)

pub digits_of_number : (n : ℕ) → FitsIn64Bits n → digits (decimal n) ≡ decimal n
digits_of_number n low = all_digits (decimal n) (are_digits n low)

pub words_behind : (n : ℕ) → FitsIn64Bits n → (rest : List ℕ) → words (decimal n ++ rest) ≡ words rest
words_behind n low rest = words_append (decimal n) rest ∙ ap (λ (t : List ℕ). t ++ words rest) (words_of_number n low)

pub digits_behind : (n : ℕ) → FitsIn64Bits n → (rest : List ℕ) → digits (decimal n ++ rest) ≡ decimal n ++ digits rest
digits_behind n low rest =
    digits_append (decimal n) rest ∙ ap (λ (t : List ℕ). t ++ digits rest) (digits_of_number n low)

pub number_read : (n : ℕ) → FitsIn64Bits n → digits_value 10 (decimal n) ≡ n
number_read n low = digits_value-decimal own n (omega (arith, low))

-- ---- numbers inside a text

-- what stands from the first digit on
abbrev pub from_digit : List ℕ → List ℕ
from_digit [] = []
from_digit (c ∷ text) = if is_ascii_digit c then c ∷ text else from_digit text

pub from_number : (n : ℕ) (rest : List ℕ) → FitsIn64Bits n → from_digit (decimal n ++ rest) ≡ decimal n ++ rest
from_number n rest low = of_digits (decimal n) (are_digits n low) (omega (arith, decimal_nonempty n (omega (arith, low))))
  where
    of_digits : (ds : List ℕ) → all_ascii_digits ds ≡ true → 0 < length ds → from_digit (ds ++ rest) ≡ ds ++ rest
    of_digits [] h some = absurd (omega arith)
    of_digits (d ∷ ds) h some =
        let k = and_parts (is_ascii_digit d) (all_ascii_digits ds) h in
        ap (λ (b : Bool). if b then d ∷ (ds ++ rest) else from_digit (ds ++ rest)) k.0

-- no digit begins the text
abbrev pub begins_otherwise : List ℕ → Bool
begins_otherwise [] = true
begins_otherwise (c ∷ text) = not (is_ascii_digit c)

no_digit_here : (d : ℕ) (ds rest text : List ℕ) → all_ascii_digits (d ∷ ds) ≡ true → begins_otherwise text ≡ true
    → text ≡ d ∷ rest → ⊥
no_digit_here d ds rest text h other is =
    let k = and_parts (is_ascii_digit d) (all_ascii_digits ds) h in
    let first : not (is_ascii_digit d) ≡ true = subst (λ (t : List ℕ). begins_otherwise t ≡ true) is other in
    let wrong : false ≡ true = sym (ap not k.0) ∙ first in
    absurd (cc (wrong))

-- equal texts have the same digits at their front
pub cut_digits : (a b rest other : List ℕ) → all_ascii_digits a ≡ true → all_ascii_digits b ≡ true
    → begins_otherwise rest ≡ true → begins_otherwise other ≡ true → a ++ rest ≡ b ++ other
    → (a ≡ b) × (rest ≡ other)
cut_digits [] [] rest other ha hb hr ho e = (refl, e)
cut_digits [] (d ∷ b) rest other ha hb hr ho e = absurd (no_digit_here d b (b ++ other) rest hb hr e)
cut_digits (c ∷ a) [] rest other ha hb hr ho e = absurd (no_digit_here c a (a ++ rest) other ha ho (sym e))
cut_digits (c ∷ a) (d ∷ b) rest other ha hb hr ho e =
    let first : c ≡ d = cc in
    let tail : a ++ rest ≡ b ++ other = cc in
    let more =
    cut_digits a b rest other (and_parts (is_ascii_digit c) (all_ascii_digits a) ha).1
    (and_parts (is_ascii_digit d) (all_ascii_digits b) hb).1 hr ho tail in
    let same_rest : a ≡ b = more.0 in
    (cc, more.1)
