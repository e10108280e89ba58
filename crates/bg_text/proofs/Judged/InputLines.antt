-- The lines of an input.
use Rattle.std.proofs.Common.{◌≡◌, ◌≢◌, ℕ, zero, suc, ◌<◌, ◌≤◌, List, [], ◌∷◌, length, take, drop, get_or, nat_eq, false, refl, ap, arith, rules, tests}
use Rattle.std.proofs.lemmas.Bool.Decides.{nat_tests}
use Rattle.std.specs.Fmt.{decimal}
use Rattle.std.proofs.lemmas.Fmt.{length-decimal-le}
use Rattle.bg_text.specs.Judge.Judging.{lines_of, IsDigitsFault}
use Rattle.bg_text.specs.declared.faults.LineFault.TheVariants.{LengthOutOfRange}

-- up to the first line feed
pub lines_of-first : (xs : List ℕ) (i : ℕ) → i < length xs → ((k : ℕ) → k < i → get_or xs k 0 ≢ 10) → get_or xs i 0 ≡ 10 → lines_of xs ≡ take i xs ∷ lines_of (drop (suc i) xs)
lines_of-first [] i within before here = absurd (omega arith)
lines_of-first (x ∷ xs) zero within before here = rw here refl
lines_of-first (x ∷ xs) (suc i) within before here =
    let other : nat_eq x 10 ≡ false = grind (arith, nat_tests, before 0 (omega arith)) in
    let rest = lines_of-first xs i (omega arith) (λ k below. before (suc k) (omega arith)) here in
    rw (other, rest) refl

-- without a line feed
pub lines_of-last : (xs : List ℕ) → 0 < length xs → ((k : ℕ) → k < length xs → get_or xs k 0 ≢ 10) → lines_of xs ≡ xs ∷ []
lines_of-last [] some none = absurd (omega arith)
lines_of-last (x ∷ []) some none =
    let other : nat_eq x 10 ≡ false = grind (arith, nat_tests, none 0 (omega arith)) in
    rw other refl
lines_of-last (x ∷ y ∷ xs) some none =
    let other : nat_eq x 10 ≡ false = grind (arith, nat_tests, none 0 (omega arith)) in
    let rest = lines_of-last (y ∷ xs) (omega arith) (λ k below. none (suc k) (omega arith)) in
    rw (other, rest) refl

-- three digits have the shape of a length, and say none
pub three_digits : (a b c : ℕ) → 48 ≤ a → a ≤ 57 → 48 ≤ b → b ≤ 57 → 48 ≤ c → c ≤ 57 → IsDigitsFault LengthOutOfRange (a ∷ b ∷ c ∷ [])
three_digits a b c la ha lb hb lc hc = (
  record { decimal_digits = search (rules, tests); some = omega arith; three = omega arith },
  λ n low high same. let short : length (decimal n) ≤ 2 = length-decimal-le 2 n (omega arith) (omega arith) (omega arith) in
      let long : 3 ≡ length (decimal n) = ap length same in omega arith,
)

pub three_digits_at : (ds : List ℕ) → length ds ≡ 3 → 48 ≤ get_or ds 0 0 → get_or ds 0 0 ≤ 57 → 48 ≤ get_or ds 1 0 → get_or ds 1 0 ≤ 57 → 48 ≤ get_or ds 2 0 → get_or ds 2 0 ≤ 57 → IsDigitsFault LengthOutOfRange ds
three_digits_at (a ∷ b ∷ c ∷ []) n la ha lb hb lc hc = three_digits a b c la ha lb hb lc hc
three_digits_at [] n la ha lb hb lc hc = absurd (omega arith)
three_digits_at (a ∷ []) n la ha lb hb lc hc = absurd (omega arith)
three_digits_at (a ∷ b ∷ []) n la ha lb hb lc hc = absurd (omega arith)
three_digits_at (a ∷ b ∷ c ∷ d ∷ more) n la ha lb hb lc hc = absurd (omega arith)
