-- Texts without blanks, and lines.
use Rattle.std.specs.Prelude.{◌≡◌, ◌==◌, ℕ, zero, suc, ◌+◌, ◌%◌, ◌^◌, ◌<◌, ◌≤◌, Bool, true, false, List, [], ◌∷◌, ◌++◌, length, replicate, codes, ◌||◌, if◌then◌else◌}
use Rattle.std.proofs.Common.{append_assoc, zero-add, refl, sym, arith}
use Rattle.std.specs.Fmt.{decimal}
use Rattle.std.specs.Str.{all_ascii_digits}
use Rattle.std.specs.Str.Parse.{digits_value}
use Rattle.std.proofs.lemmas.Bool.{ne_eqb}
use Rattle.std.proofs.lemmas.Fmt.{decimal_by_steps, decimal_nonempty, digits_decimal, digits_value-decimal, length-decimal-le}
use Rattle.std.proofs.lemmas.Str.Parse.{IsNumeralModel, numerals_by_value, tells_all_ascii_digits}
use Rattle.bg_text.specs.Judge.Judging.{lines_of}
use Rattle.bg_mat.specs.Rows.Numbers.{IsNumber}
use Rattle.bg_mat.specs.Rows.Words.{is_blank, leading_blanks, EndsWord, IsBlankText, IsFirstWord, IsSolid}

-- neither blank nor a line feed
abbrev pub IsPlainByte : ℕ → Type 0
IsPlainByte byte = (is_blank byte ≡ false) × ((byte == 10) ≡ false)

abbrev pub IsPlain : List ℕ → Type 0
IsPlain [] = Unit {0}
IsPlain (byte ∷ text) = IsPlainByte byte × IsPlain text

-- no line feed
abbrev pub IsOfLine : List ℕ → Type 0
IsOfLine [] = Unit {0}
IsOfLine (byte ∷ text) = ((byte == 10) ≡ false) × IsOfLine text

pub plain_both : (a b : List ℕ) → IsPlain a → IsPlain b → IsPlain (a ++ b)
plain_both [] b h k = k
plain_both (x ∷ a) b h k = (h.0, plain_both a b h.1 k)

pub of_line_both : (a b : List ℕ) → IsOfLine a → IsOfLine b → IsOfLine (a ++ b)
of_line_both [] b h k = k
of_line_both (x ∷ a) b h k = (h.0, of_line_both a b h.1 k)

pub plain_of_line : (a : List ℕ) → IsPlain a → IsOfLine a
plain_of_line [] h = tt
plain_of_line (x ∷ a) h = (h.0.1, plain_of_line a h.1)

solid_at : (x : ℕ) (a : List ℕ) → is_blank x ≡ false → IsSolid a → IsSolid (x ∷ a)
solid_at x a h more zero d l = h
solid_at x a h more (suc k) d l = more k d (omega arith)

pub plain_solid : (a : List ℕ) → IsPlain a → IsSolid a
plain_solid [] h = λ k d l. absurd (omega arith)
plain_solid (x ∷ a) h = solid_at x a h.0.0 (plain_solid a h.1)

pub blank_at : (x : ℕ) (a : List ℕ) → is_blank x ≡ true → IsBlankText a → IsBlankText (x ∷ a)
blank_at x a h more zero d l = h
blank_at x a h more (suc k) d l = more k d (omega arith)

pub blank_both : (a b : List ℕ) → IsBlankText a → IsBlankText b → IsBlankText (a ++ b)
blank_both [] b h k = k
blank_both (x ∷ a) b h k =
    blank_at x (a ++ b) (h 0 0 (omega arith)) (blank_both a b (λ i d l. h (suc i) d (omega arith)) k)

pub no_blanks : IsBlankText []
no_blanks = λ k d l. absurd (omega arith)

pub blanks : (n : ℕ) → IsBlankText (replicate n 32)
blanks zero = no_blanks
blanks (suc n) = blank_at 32 (replicate n 32) refl (blanks n)

pub blanks_of_line : (n : ℕ) → IsOfLine (replicate n 32)
blanks_of_line zero = tt
blanks_of_line (suc n) = (refl, blanks_of_line n)

first_line_of : (line rest : List ℕ) → IsOfLine line → lines_of (line ++ 10 ∷ rest) ≡ line ∷ lines_of rest
first_line_of [] rest h = refl
first_line_of (x ∷ line) rest h = rw (h.0, first_line_of line rest h.1) refl

-- the first line of a text
pub first_line : (line rest : List ℕ) → IsOfLine line → lines_of (line ++ codes "\n" ++ rest) ≡ line ∷ lines_of rest
first_line line rest h = rw (append_assoc line (codes "\n") rest) (first_line_of line rest h)

-- a digit is plain
digit_plain : (n : ℕ) → n < 10 → IsPlainByte (48 + n)
digit_plain n small =
    let space : ((48 + n) == 32) ≡ false = ne_eqb (48 + n) 32 (λ e. omega arith) in
    let tab : ((48 + n) == 9) ≡ false = ne_eqb (48 + n) 9 (λ e. omega arith) in
    let end : ((48 + n) == 13) ≡ false = ne_eqb (48 + n) 13 (λ e. omega arith) in
    (rw (space, tab, end) refl, ne_eqb (48 + n) 10 (λ e. omega arith))

pub decimal_plain : (n : ℕ) → n < 2 ^ 64 → IsPlain (decimal n)
decimal_plain n small =
    decimal_by_steps (λ m ds. IsPlain ds) (λ m few. (digit_plain m few, tt))
    (λ m ds ten h. plain_both ds ((48 + m % 10) ∷ []) h (digit_plain (m % 10) (omega arith), tt)) n small

own : IsNumeralModel (λ ds. all_ascii_digits ds ≡ true) (digits_value 10)
own = numerals_by_value (λ ds. all_ascii_digits ds ≡ true) tells_all_ascii_digits

-- a number of up to four digits
pub number_is : (n : ℕ) → n ≤ 9999 → IsNumber (decimal n) n
number_is n small = record {
  digits = digits_decimal own n (omega arith);
  some = decimal_nonempty n (omega arith);
  few = length-decimal-le 4 n (omega arith) (omega arith) (omega arith);
  value = sym (digits_value-decimal own n (omega arith));
}

-- the first word of a text
pub word_first : (gap word rest : List ℕ) → IsBlankText gap → IsPlain word → 0 < length word → EndsWord rest
    → IsFirstWord (gap ++ (word ++ rest)) word rest
word_first gap word rest blank plain some ends = record {
  blanks = gap;
  blank = blank;
  some = some;
  solid = plain_solid word plain;
  ends = ends;
  spelled = sym (append_assoc gap word rest);
}

-- the same, behind more blanks
pub word_behind : (gap text word rest : List ℕ) → IsBlankText gap → IsFirstWord text word rest
    → IsFirstWord (gap ++ text) word rest
word_behind gap text word rest blank first = record {
  blanks = gap ++ first.blanks;
  blank = blank_both gap first.blanks blank first.blank;
  some = first.some;
  solid = first.solid;
  ends = first.ends;
  spelled = rw first.spelled (simp append_assoc);
}

-- blanks that a text begins with
pub leading_both : (gap text : List ℕ) → IsBlankText gap → leading_blanks (gap ++ text) ≡ length gap + leading_blanks text
leading_both [] text h = sym (zero-add (leading_blanks text))
leading_both (x ∷ gap) text h =
    let first : is_blank x ≡ true = h 0 0 (omega arith) in
    let more = leading_both gap text (λ i d l. h (suc i) d (omega arith)) in
    rw (first, more) (omega arith)

-- whether all bytes are plain
abbrev pub all_plain : List ℕ → Bool
all_plain [] = true
all_plain (byte ∷ text) = if is_blank byte || byte == 10 then false else all_plain text

plain_byte : (a b c : Bool) → (if a || b then false else c) ≡ true → (a ≡ false) × (b ≡ false) × (c ≡ true)
plain_byte true b c h = absurd (cc (h))
plain_byte false true c h = absurd (cc (h))
plain_byte false false c h = (refl, refl, h)

pub plain_by : (a : List ℕ) → all_plain a ≡ true → IsPlain a
plain_by [] h = tt
plain_by (x ∷ a) h = let k = plain_byte (is_blank x) (x == 10) (all_plain a) h in ((k.0, k.1), plain_by a k.2)

-- a word has no blank before it
pub plain_leading : (word rest : List ℕ) → IsPlain word → 0 < length word → leading_blanks (word ++ rest) ≡ 0
plain_leading [] rest h some = absurd (omega arith)
plain_leading (x ∷ word) rest h some = rw h.0.0 refl

-- one blank
pub one_blank : IsBlankText (codes " ")
one_blank = blank_at 32 [] refl no_blanks

-- whether no byte is a line feed
abbrev pub has_no_feed : List ℕ → Bool
has_no_feed [] = true
has_no_feed (byte ∷ text) = if byte == 10 then false else has_no_feed text

no_feed : (a b : Bool) → (if a then false else b) ≡ true → (a ≡ false) × (b ≡ true)
no_feed true b h = absurd (cc (h))
no_feed false b h = (refl, h)

pub of_line_by : (a : List ℕ) → has_no_feed a ≡ true → IsOfLine a
of_line_by [] h = tt
of_line_by (x ∷ a) h = let k = no_feed (x == 10) (has_no_feed a) h in (k.0, of_line_by a k.1)
