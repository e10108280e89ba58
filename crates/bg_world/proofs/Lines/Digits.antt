-- Numbers of up to ten digits, digit by digit.
use Rattle.std.proofs.Common.{◌≡◌, ℕ, zero, suc, ◌+◌, ◌-◌, ◌*◌, ◌<◌, ◌≤◌, ◌^◌, Bool, true, false, ◌&&◌, List, [], ◌∷◌, ◌++◌, length, take, get_or, sym, ap, ◌∙◌, arith, subst}
use Rattle.std.specs.Int.{IsInRange}
use Rattle.std.specs.Char.{is_ascii_digit, digit_value}
use Rattle.std.specs.Fmt.{decimal}
use Rattle.std.specs.Str.{all_ascii_digits}
use Rattle.std.specs.Str.Parse.{digits_value}
use Rattle.std.proofs.lemmas.Bool.{and_parts}
use Rattle.std.proofs.lemmas.Int.Digits.{digits_value_push}
use Rattle.std.proofs.lemmas.List.{take_more}
use Rattle.std.proofs.lemmas.Str.{digit_value_digit}
use Rattle.std.proofs.lemmas.Str.Parse.{IsNumeralModel, numerals_by_value, tells_all_ascii_digits, digits_value_short}
use Rattle.std.proofs.lemmas.Fmt.{decimal_digit, decimal-digits_value, digits_value-decimal, first_decimal}

pub own : IsNumeralModel (λ ds. all_ascii_digits ds ≡ true) (digits_value 10)
own = numerals_by_value (λ ds. all_ascii_digits ds ≡ true) tells_all_ascii_digits

digits_snoc : (ds : List ℕ) (c : ℕ) → all_ascii_digits ds ≡ true → is_ascii_digit c ≡ true
    → all_ascii_digits (ds ++ c ∷ []) ≡ true
digits_snoc [] c h d = ap (λ (b : Bool). b && true) d
digits_snoc (x ∷ ds) c h d =
    let k = and_parts (is_ascii_digit x) (all_ascii_digits ds) h in
    ap (λ (b : Bool). b && all_ascii_digits (ds ++ c ∷ [])) k.0 ∙ digits_snoc ds c k.1 d

pub no_digit : (ds : List ℕ) (i : ℕ) → i < length ds → is_ascii_digit (get_or ds i 0) ≡ false
    → all_ascii_digits ds ≡ true → ⊥
no_digit [] i l f h = absurd (omega arith)
no_digit (d ∷ ds) zero l f h =
    let k = and_parts (is_ascii_digit d) (all_ascii_digits ds) h in
    let t : is_ascii_digit d ≡ true = k.0 in absurd (cc (t, f))
no_digit (d ∷ ds) (suc i) l f h =
    let k = and_parts (is_ascii_digit d) (all_ascii_digits ds) h in no_digit ds i (omega arith) f k.1

-- up to nine digits are below a thousand million
pub bounded : (word : List ℕ) (i : ℕ) (value : ℕ) → i < length word → length word ≤ 10
    → all_ascii_digits (take i word) ≡ true → value ≡ digits_value 10 (take i word) → length (take i word) ≤ i
    → value < 1000000000
bounded word i value l ten h is few =
    let small : digits_value 10 (take i word) < 10 ^ 9 = digits_value_short own (take i word) 9 h (omega arith) in
    subst (λ (n : ℕ). n < 10 ^ 9) (sym is) small

pub digits_more : (word : List ℕ) (i : ℕ) → i < length word → all_ascii_digits (take i word) ≡ true
    → is_ascii_digit (get_or word i 0) ≡ true → all_ascii_digits (take (i + 1) word) ≡ true
digits_more word i l h d =
    subst (λ (ds : List ℕ). all_ascii_digits ds ≡ true) (sym (take_more word i 0 l))
    (digits_snoc (take i word) (get_or word i 0) h d)

pub value_more : (word : List ℕ) (i value digit : ℕ) → i < length word → IsInRange 48 57 (get_or word i 0)
    → digit ≡ get_or word i 0 - 48 → value ≡ digits_value 10 (take i word)
    → value * 10 + digit ≡ digits_value 10 (take (i + 1) word)
value_more word i value digit l r d is =
    let c = get_or word i 0 in
    let pushed : digits_value 10 (take i word ++ c ∷ []) ≡ digits_value 10 (take i word) * 10 + digit_value c =
    digits_value_push 10 (take i word) c in
    let same : digit_value c + 48 ≡ c = digit_value_digit c r in
    let sum : value * 10 + digit ≡ digits_value 10 (take i word) * 10 + digit_value c =
    omega (arith, is, d, same) in
    sum ∙ sym pushed ∙ ap (digits_value 10) (sym (take_more word i 0 l))

-- a number that the digits write is their value
pub number_is_value : (most value : ℕ) (word : List ℕ) → most < 2 ^ 64 → value ≡ digits_value 10 word
    → (n : ℕ) → n ≤ most → word ≡ decimal n → (value ≤ most) × (word ≡ decimal value)
number_is_value most value word fits is n low e =
    let same : digits_value 10 (decimal n) ≡ n = digits_value-decimal own n (omega (arith, fits, low)) in
    let v : value ≡ n = is ∙ ap (digits_value 10) e ∙ same in
    (subst (λ (k : ℕ). k ≤ most) (sym v) low, e ∙ ap decimal (sym v))

-- digits are as their number is written, unless a zero stands before another one
pub written_digits : (word : List ℕ) (number : ℕ) → all_ascii_digits word ≡ true → 1 ≤ length word → length word ≤ 10
    → number ≡ digits_value 10 word → (get_or word 0 0 ≡ 48 → length word ≡ 1) → word ≡ decimal number
written_digits word number d some ten is first =
    let small : digits_value 10 word < 10 ^ 10 = digits_value_short own word 10 d ten in
    sym (ap decimal is ∙ decimal-digits_value own word d some first (omega (arith, small)))

pub no_zero_first : (word : List ℕ) (number : ℕ) → word ≡ decimal number → number < 2 ^ 64 → get_or word 0 0 ≡ 48
    → length word ≡ 1
no_zero_first word zero is fits z = ap length (is ∙ decimal_digit 0 (omega arith))
no_zero_first word (suc n) is fits z =
    let more : 48 < get_or (decimal (suc n)) 0 0 = first_decimal (suc n) (omega arith) fits in
    let same : get_or (decimal (suc n)) 0 0 ≡ 48 = sym (ap (λ (ds : List ℕ). get_or ds 0 0) is) ∙ z in
    absurd (omega (arith, more, same))
