-- Single bits of what the masks compute.
use Rattle.std.proofs.Common.{◌≡◌, ℕ, zero, suc, ◌+◌, ◌-◌, ◌*◌, ◌/◌, ◌%◌, ◌^◌, ◌<◌, ◌≤◌, min, sym, ◌∙◌, ap, arith, w32}
use Rattle.std.specs.Int.{bit_at}
use Rattle.std.proofs.Math.Nat.{mod-eq_of_lt}
use Rattle.std.proofs.Math.Pow.{pow-lt}
use lib.Bits.{bit_and}
use lib.Pow.{pow-add}
use native.Mathlib.Nat.{div-div-eq-div-mul}
use Rattle.std.proofs.lemmas.Nat.Bits.{bit_at_and, bit_at_not, bit_at_ones, bit_at_ones_above, bit_at-lt}

pub bit_at-shr : (n d q : ℕ) → bit_at (n / 2 ^ d) q ≡ bit_at n (d + q)
bit_at-shr n d q =
    ap (λ m. m % 2) (div-div-eq-div-mul n (2 ^ d) (2 ^ q) ∙ ap (λ k. n / k) (sym (pow-add 2 d q)))

-- a single bit
pub power : (k : ℕ) → k < 32 → 1 * 2 ^ k % 4294967296 ≡ 2 ^ k
power k within =
    let less : 2 ^ k < 2 ^ 32 = pow-lt within in
    let one : 1 * 2 ^ k ≡ 2 ^ k = omega arith in
    ap (λ n. n % 4294967296) one ∙ mod-eq_of_lt less

shr_small : (n die : ℕ) → n < 4294967296 → 1 ≤ die → die ≤ 6 → n / 2 ^ die < 4294967296
shr_small n zero small a b = absurd (omega arith)
shr_small n (suc zero) small a b = omega arith
shr_small n (suc (suc zero)) small a b = omega arith
shr_small n (suc (suc (suc zero))) small a b = omega arith
shr_small n (suc (suc (suc (suc zero)))) small a b = omega arith
shr_small n (suc (suc (suc (suc (suc zero))))) small a b = omega arith
shr_small n (suc (suc (suc (suc (suc (suc zero)))))) small a b = omega arith
shr_small n (suc (suc (suc (suc (suc (suc (suc k))))))) small a b = absurd (omega arith)

module _ (held blocked die below : ℕ) (some : 1 ≤ die) (few : die ≤ 6) (within : below < 32) where
  abbrev landing : ℕ
  landing = bit_and (bit_and held (4294967295 - blocked / 2 ^ die)) (1 * 2 ^ below % 4294967296 - 1)

  pub landing_inside : (q : ℕ) → blocked < 4294967296 → q < below → bit_at landing q ≡ min (bit_at held q) (1 - bit_at blocked (die + q))
  landing_inside q small inside =
      let both = bit_at_and (bit_and held (4294967295 - blocked / 2 ^ die)) (1 * 2 ^ below % 4294967296 - 1) q in
      let first = bit_at_and held (4294967295 - blocked / 2 ^ die) q in
      let flipped : bit_at (4294967295 - blocked / 2 ^ die) q ≡ 1 - bit_at (blocked / 2 ^ die) q =
      bit_at_not w32 (blocked / 2 ^ die) q (shr_small blocked die small some few) (omega arith) in
      let moved = bit_at-shr blocked die q in
      let low : bit_at (1 * 2 ^ below % 4294967296 - 1) q ≡ 1 =
      ap (λ n. bit_at (n - 1) q) (power below within) ∙ bit_at_ones below q inside in
      let one = bit_at-lt held q in
      both ∙ step (bit_at (bit_and held (4294967295 - blocked / 2 ^ die)) q) (bit_at (1 * 2 ^ below % 4294967296 - 1) q)
      (bit_at held q) (bit_at (4294967295 - blocked / 2 ^ die) q) (bit_at (blocked / 2 ^ die) q)
      (bit_at blocked (die + q)) first flipped moved low one where
        step : (a b c d e f : ℕ) → a ≡ min c d → d ≡ 1 - e → e ≡ f → b ≡ 1 → c < 2 → min a b ≡ min c (1 - f)
        step a b c d e f x y z u v = omega arith

  pub landing_outside : (q : ℕ) → below ≤ q → bit_at landing q ≡ 0
  landing_outside q outside =
      let both = bit_at_and (bit_and held (4294967295 - blocked / 2 ^ die)) (1 * 2 ^ below % 4294967296 - 1) q in
      let low : bit_at (1 * 2 ^ below % 4294967296 - 1) q ≡ 0 =
      ap (λ n. bit_at (n - 1) q) (power below within) ∙ bit_at_ones_above below q outside in
      both ∙ none (bit_at (bit_and held (4294967295 - blocked / 2 ^ die)) q) (bit_at (1 * 2 ^ below % 4294967296 - 1) q) low where
        none : (a b : ℕ) → b ≡ 0 → min a b ≡ 0
        none a b x = omega arith
