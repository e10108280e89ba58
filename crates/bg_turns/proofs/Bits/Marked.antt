-- The mover's points as bits.
use Rattle.std.proofs.Common.{◌≡◌, ◌≢◌, ◌↔◌, ℕ, ◌+◌, ◌-◌, ◌*◌, ◌%◌, ◌^◌, ◌<◌, ◌≤◌, min, List, length, get_or, ◌∙◌, arith, inl, inr, ◌⊎◌}
use Rattle.std.specs.Int.{bit_at}
use Rattle.std.proofs.Common.{w32}
use lib.Bits.{bit_and}
use Rattle.std.specs.Int.RustNames.{bit_or}
use Rattle.std.proofs.Math.ListN.{set}
use Rattle.std.proofs.Math.Pow.{pow-lt}
use Rattle.std.proofs.lemmas.Nat.{and_le_l, or_lt}
use Rattle.bg_turns.proofs.Bits.Single.{power}
use Rattle.std.proofs.lemmas.Bool.{cases_eq}
use Rattle.std.proofs.lemmas.Grind.{common_steps}
use Rattle.std.proofs.lemmas.Nat.Bits.{bit_at_and, bit_at_set_same, bit_at_set_other, bit_at_clear_same, bit_at_clear_other}

-- where there are checkers
abbrev pub AreHeld : ℕ → List ℕ → Type 0
AreHeld held own = (q : ℕ) → q ≤ 24 → (bit_at held q ≡ 1) ↔ (0 < get_or own (25 - q) 0)

set_there : (xs : List ℕ) (i y : ℕ) → i < length xs → get_or (set xs i y) i 0 ≡ y
set_there xs i y within = grind (arith, common_steps)

set_else : (xs : List ℕ) (i k y : ℕ) → k ≢ i → get_or (set xs i y) k 0 ≡ get_or xs k 0
set_else xs i k y other = grind (arith, common_steps)

module _ (own : List ℕ) (held from : ℕ) (long : length own ≡ 26) (low : 1 ≤ from) (high : from ≤ 25) (are : AreHeld held own) where
  held_cleared : get_or own from 0 ≡ 1 → AreHeld (bit_and held (4294967295 - 1 * 2 ^ (25 - from) % 4294967296)) (set own from (get_or own from 0 - 1))
  held_cleared one q within = elim (cases_eq q (25 - from)) [
    | inl same ↦
        let back : 25 - q ≡ from = omega arith in
        let off : bit_at (bit_and held (4294967295 - 1 * 2 ^ (25 - from) % 4294967296)) (25 - from) ≡ 0 = bit_at_clear_same w32 held (25 - from) (omega arith) in
        let none = set_there own from (get_or own from 0 - 1) (omega arith) in
        rw (back, same) (λ h. absurd (omega arith), λ h. absurd (omega arith))
    | inr other ↦
        let kept : bit_at (bit_and held (4294967295 - 1 * 2 ^ (25 - from) % 4294967296)) q ≡ bit_at held q = bit_at_clear_other w32 held (25 - from) (omega arith) q (omega arith) other in
        let same = set_else own from (25 - q) (get_or own from 0 - 1) (omega arith) in
        rw (kept, same) (are q within)
  ]

  held_kept : get_or own from 0 ≢ 1 → 0 < get_or own from 0 → AreHeld held (set own from (get_or own from 0 - 1))
  held_kept more some q within = elim (cases_eq q (25 - from)) [
    | inl same ↦
        let back : 25 - q ≡ from = omega arith in
        let there = set_there own from (get_or own from 0 - 1) (omega arith) in
        let before : (bit_at held q ≡ 1) ↔ (0 < get_or own from 0) = rw back at (are q within) in
        rw (back, there) (λ h. omega arith, λ h. before.1 some)
    | inr other ↦
        let same = set_else own from (25 - q) (get_or own from 0 - 1) (omega arith) in
        rw same (are q within)
  ]

module _ (own : List ℕ) (held to : ℕ) (long : length own ≡ 26) (high : to ≤ 24) (are : AreHeld held own) where
  held_set : 0 < to → AreHeld (bit_or held (1 * 2 ^ (25 - to) % 4294967296)) (set own to (get_or own to 0 + 1))
  held_set some q within = elim (cases_eq q (25 - to)) [
    | inl same ↦
        let back : 25 - q ≡ to = omega arith in
        let on : bit_at (bit_or held (1 * 2 ^ (25 - to) % 4294967296)) (25 - to) ≡ 1 = bit_at_set_same w32 held (25 - to) (omega arith) in
        let there = set_there own to (get_or own to 0 + 1) (omega arith) in
        rw (back, same) (λ h. omega arith, λ h. on)
    | inr other ↦
        let kept : bit_at (bit_or held (1 * 2 ^ (25 - to) % 4294967296)) q ≡ bit_at held q = bit_at_set_other w32 held (25 - to) (omega arith) q other in
        let same = set_else own to (25 - q) (get_or own to 0 + 1) (omega arith) in
        rw (kept, same) (are q within)
  ]

  pub held_off : to ≡ 0 → AreHeld held (set own to (get_or own to 0 + 1))
  held_off none q within =
      let same = set_else own to (25 - q) (get_or own to 0 + 1) (omega arith) in
      rw same (are q within)

-- there are no other bits
abbrev pub HeldOnly : ℕ → Type 0
HeldOnly held = (q : ℕ) → 25 ≤ q → bit_at held q ≡ 0

only_cleared : (held mask : ℕ) → HeldOnly held → HeldOnly (bit_and held mask)
only_cleared held mask only q past = bit_at_and held mask q ∙ none (bit_at held q) (bit_at mask q) (only q past) where
  none : (a b : ℕ) → a ≡ 0 → min a b ≡ 0
  none a b x = omega arith

only_set : (held to : ℕ) → 0 < to → HeldOnly held → HeldOnly (bit_or held (1 * 2 ^ (25 - to) % 4294967296))
only_set held to some only q past = bit_at_set_other w32 held (25 - to) (omega arith) q (omega arith) ∙ only q past

-- and no more than thirty-two
small_cleared : (held mask : ℕ) → held < 4294967296 → bit_and held mask < 4294967296
small_cleared held mask small = let less = and_le_l held mask in omega arith

small_set : (held to : ℕ) → 0 < to → held < 4294967296 → bit_or held (1 * 2 ^ (25 - to) % 4294967296) < 4294967296
small_set held to some small =
    or_lt 32 held (1 * 2 ^ (25 - to) % 4294967296) small
    (let is = power (25 - to) (omega arith) in rw is (pow-lt (let low : 25 - to < 32 = omega arith in low)))

-- the bits are those of the checkers
pub record AreBits (held : ℕ) (own : List ℕ) : Type 0 where
  pub each : AreHeld held own
  pub only : HeldOnly held
  pub small : held < 4294967296

-- a checker is lifted, and put down
pub lifted_bits : (own : List ℕ) (held from : ℕ) → length own ≡ 26 → 1 ≤ from → from ≤ 25 → 0 < get_or own from 0 → AreBits held own → (n : ℕ)
    → ((n ≡ bit_and held (4294967295 - 1 * 2 ^ (25 - from) % 4294967296)) × (get_or own from 0 ≡ 1)) ⊎ ((n ≡ held) × (get_or own from 0 ≢ 1))
    → AreBits n (set own from (get_or own from 0 - 1))
lifted_bits own held from long low high some are n (inl (is, one)) = rw is (record {
  each = held_cleared own held from long low high are.each one;
  only = only_cleared held _ are.only;
  small = small_cleared held _ are.small;
})
lifted_bits own held from long low high some are n (inr (is, more)) = rw is (record {
  each = held_kept own held from long low high are.each more some;
  only = are.only;
  small = are.small;
})

pub put_bits : (own : List ℕ) (held to : ℕ) → length own ≡ 26 → to ≤ 24 → 0 < to → AreBits held own
    → AreBits (bit_or held (1 * 2 ^ (25 - to) % 4294967296)) (set own to (get_or own to 0 + 1))
put_bits own held to long high some are = record {
  each = held_set own held to long high are.each some;
  only = only_set held to some are.only;
  small = small_set held to some are.small;
}

-- the bits below a place say where P holds, and there are no others
abbrev pub Marks : (ℕ → Type 0) → ℕ → ℕ → Type 0
Marks P n place = ((q : ℕ) → q < place → (bit_at n q ≡ 1) ↔ P q) × ((q : ℕ) → place ≤ q → bit_at n q ≡ 0)
