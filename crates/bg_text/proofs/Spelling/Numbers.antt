-- Numbers of one or two digits.
use Rattle.std.specs.Prelude.{◌≡◌, ℕ, ◌+◌, ◌-◌, ◌*◌, ◌/◌, ◌%◌, ◌<◌, ◌≤◌, List, [], ◌∷◌, ◌++◌, length, slice_index, Ok, Err}
use Rattle.std.specs.Fmt.{decimal}
use Rattle.std.proofs.Common.{refl, sym, ◌∙◌, ap, arith, inl, inr, rules, tests}
use Rattle.std.proofs.lemmas.Bool.{cases_lt}
use Rattle.std.proofs.lemmas.Fmt.{decimal_digit, decimal_step}
use Rattle.bg_text.specs.Entries.EntryShape.{IsNumeral}
use Rattle.bg_text.specs.Entries.Pairs.{IsNumberOf}
use Rattle.bg_text.specs.declared.faults.TextFault.TheVariants.{BadNumber}

-- what a number below 100 is written as
pub two_digits : (n : ℕ) → 10 ≤ n → n < 100 → decimal n ≡ (48 + n / 10) ∷ (48 + n % 10) ∷ []
two_digits n low high =
    let small : n / 10 < 10 = omega arith in
    decimal_step n low (omega arith) ∙ ap (λ ds. ds ++ (48 + n % 10) ∷ []) (decimal_digit (n / 10) small)

pub numeral_one : (a : ℕ) → 48 ≤ a → a ≤ 57 → IsNumeral (a ∷ [])
numeral_one a low high = record { digits = search (rules, tests); some = omega arith; two = omega arith }

pub numeral_two : (a b : ℕ) → 48 ≤ a → a ≤ 57 → 48 ≤ b → b ≤ 57 → IsNumeral (a ∷ b ∷ [])
numeral_two a b low high low' high' = record { digits = search (rules, tests); some = omega arith; two = omega arith }

-- one digit but 0
pub number_one : (a : ℕ) → 49 ≤ a → a ≤ 57 → IsNumberOf (a ∷ []) (Ok (a - 48))
number_one a low high =
    let few : a - 48 < 10 = omega arith in
    let same : a ≡ 48 + (a - 48) = omega arith in
    ((omega arith, omega arith), ap (λ x. x ∷ []) same ∙ sym (decimal_digit (a - 48) few))

pub number_two : (a b : ℕ) → 49 ≤ a → a ≤ 57 → 48 ≤ b → b ≤ 57 → IsNumberOf (a ∷ b ∷ []) (Ok (10 * (a - 48) + (b - 48)))
number_two a b some high low' high' = ((omega arith, omega arith), written (10 * (a - 48) + (b - 48)) (omega arith) refl)
  where
    written : (n : ℕ) → n < 100 → 10 * (a - 48) + (b - 48) ≡ n → a ∷ b ∷ [] ≡ decimal n
    written n below e =
        let many : 10 ≤ n = omega arith in
        let g : a ≡ 48 + n / 10 = omega arith in
        let h : b ≡ 48 + n % 10 = omega arith in
        ap (λ x. x ∷ b ∷ []) g ∙ (ap (λ x. (48 + n / 10) ∷ x ∷ []) h ∙ sym (two_digits n many below))

-- no number is written with a zero in front
no_zero : (n : ℕ) (more : List ℕ) → 0 < n → n < 100 → 48 ∷ more ≡ decimal n → ⊥
no_zero n more some below e = elim (cases_lt n 10) [
  | inl few ↦ let f : 48 ∷ more ≡ (48 + n) ∷ [] = e ∙ decimal_digit n few in
      let g : 48 ≡ 48 + n = cc in omega arith
  | inr many ↦ let f : 48 ∷ more ≡ (48 + n / 10) ∷ (48 + n % 10) ∷ [] = e ∙ two_digits n many below in
      let g : 48 ≡ 48 + n / 10 = cc in omega arith
]

pub zero_wrong : IsNumberOf (48 ∷ []) (Err BadNumber)
zero_wrong = (numeral_one 48 (omega arith) (omega arith), λ n range e. no_zero n [] range.0 range.1 e)

pub zero_first : (b : ℕ) → 48 ≤ b → b ≤ 57 → IsNumberOf (48 ∷ b ∷ []) (Err BadNumber)
zero_first b low high = (
  numeral_two 48 b (omega arith) (omega arith) low high,
  λ n range e. no_zero n (b ∷ []) range.0 range.1 e,
)

-- the same, of a word that is known by its length and its bytes
pub number_of_zero : (word : List ℕ) → length word ≡ 1 → slice_index word 0 ≡ 48 → IsNumberOf word (Err BadNumber)
number_of_zero [] n zero' = absurd (omega arith)
number_of_zero (a ∷ []) n zero' = rw zero' zero_wrong
number_of_zero (a ∷ b ∷ more) n zero' = absurd (omega arith)

pub number_of_zero_first : (word : List ℕ) → length word ≡ 2 → slice_index word 0 ≡ 48 → 48 ≤ slice_index word 1 → slice_index word 1 ≤ 57 → IsNumberOf word (Err BadNumber)
number_of_zero_first [] n zero' low high = absurd (omega arith)
number_of_zero_first (a ∷ []) n zero' low high = absurd (omega arith)
number_of_zero_first (a ∷ b ∷ []) n zero' low high = rw zero' (zero_first b low high)
number_of_zero_first (a ∷ b ∷ x ∷ more) n zero' low high = absurd (omega arith)

pub number_of_one : (word : List ℕ) → length word ≡ 1 → 49 ≤ slice_index word 0 → slice_index word 0 ≤ 57 → IsNumberOf word (Ok (slice_index word 0 - 48))
number_of_one [] n low high = absurd (omega arith)
number_of_one (a ∷ []) n low high = number_one a low high
number_of_one (a ∷ b ∷ more) n low high = absurd (omega arith)

pub number_of_two : (word : List ℕ) → length word ≡ 2 → 49 ≤ slice_index word 0 → slice_index word 0 ≤ 57 → 48 ≤ slice_index word 1 → slice_index word 1 ≤ 57 → IsNumberOf word (Ok (10 * (slice_index word 0 - 48) + (slice_index word 1 - 48)))
number_of_two [] n some high low' high' = absurd (omega arith)
number_of_two (a ∷ []) n some high low' high' = absurd (omega arith)
number_of_two (a ∷ b ∷ []) n some high low' high' = number_two a b some high low' high'
number_of_two (a ∷ b ∷ x ∷ more) n some high low' high' = absurd (omega arith)
