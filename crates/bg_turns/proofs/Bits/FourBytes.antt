-- The bits of 25 counts, as four bytes of one number, and what each says of its count.
use Rattle.std.proofs.Common.{◌≡◌, ℕ, zero, suc, ◌+◌, ◌*◌, ◌/◌, ◌<◌, ◌≤◌, Bool, true, false, ltb, List, get_or, ◌∙◌, ◌↔◌, ◌-◌, ap, subst, arith, inl, inr}
use mir.Val.{bool_byte}
use Rattle.std.specs.Int.{bit_at}
use Rattle.std.proofs.lemmas.Bool.{cases_lt, lt-ltb, le-ltb}
use Rattle.std.proofs.lemmas.Nat.Bits.{bit_at_above}
use Rattle.bg_turns.proofs.Bits.ByBytes.{above_byte}
use Rattle.bg_turns.proofs.Bits.Marked.{Marks}

-- four bytes of one number
low_bits : (d m q : ℕ) → q < 8 → bit_at (d + 256 * m) q ≡ bit_at d q
low_bits d m zero below = omega arith
low_bits d m (suc zero) below = omega arith
low_bits d m (suc (suc zero)) below = omega arith
low_bits d m (suc (suc (suc zero))) below = omega arith
low_bits d m (suc (suc (suc (suc zero)))) below = omega arith
low_bits d m (suc (suc (suc (suc (suc zero))))) below = omega arith
low_bits d m (suc (suc (suc (suc (suc (suc zero)))))) below = omega arith
low_bits d m (suc (suc (suc (suc (suc (suc (suc zero))))))) below = omega arith
low_bits d m (suc (suc (suc (suc (suc (suc (suc (suc k)))))))) below = absurd (omega arith)

module _ (P : ℕ → Type 0) (n a b c d : ℕ) (is : n ≡ a + b * 256 + c * 65536 + d * 16777216) (x : a < 256) (y : b < 256) (z : c < 256) (w : d < 2)
    (first : (q : ℕ) → q < 8 → (bit_at a q ≡ 1) ↔ P q) (second : (q : ℕ) → q < 8 → (bit_at b q ≡ 1) ↔ P (8 + q))
    (third : (q : ℕ) → q < 8 → (bit_at c q ≡ 1) ↔ P (16 + q)) (last : (d ≡ 1) ↔ P 24) where
  bytes : n ≡ a + 256 * (b + 256 * (c + 256 * d))
  bytes = omega arith

  at_first : (q : ℕ) → q < 8 → bit_at n q ≡ bit_at a q
  at_first q low = ap (λ k. bit_at k q) bytes ∙ low_bits a (b + 256 * (c + 256 * d)) q low

  at_second : (q : ℕ) → q < 8 → bit_at n (8 + q) ≡ bit_at b q
  at_second q low = ap (λ k. bit_at k (8 + q)) bytes ∙ (above_byte a (b + 256 * (c + 256 * d)) q x ∙ low_bits b (c + 256 * d) q low)

  at_third : (q : ℕ) → q < 8 → bit_at n (8 + (8 + q)) ≡ bit_at c q
  at_third q low =
      ap (λ k. bit_at k (8 + (8 + q))) bytes ∙ (above_byte a (b + 256 * (c + 256 * d)) (8 + q) x
      ∙ (above_byte b (c + 256 * d) q y ∙ low_bits c d q low))

  at_last : (q : ℕ) → bit_at n (8 + (8 + (8 + q))) ≡ bit_at d q
  at_last q =
      ap (λ k. bit_at k (8 + (8 + (8 + q)))) bytes ∙ (above_byte a (b + 256 * (c + 256 * d)) (8 + (8 + q)) x
      ∙ (above_byte b (c + 256 * d) (8 + q) y ∙ above_byte c d q z))

  inside : (q : ℕ) → q < 25 → (bit_at n q ≡ 1) ↔ P q
  inside q below = elim (cases_lt q 8) [
    | inl low ↦ rw (at_first q low) (first q low)
    | inr high ↦ elim (cases_lt q 16) [
      | inl low ↦
          let back : 8 + (q - 8) ≡ q = omega arith in
          subst (λ (k : ℕ). (bit_at n k ≡ 1) ↔ P k) back (rw (at_second (q - 8) (omega arith)) (second (q - 8) (omega arith)))
      | inr high' ↦ elim (cases_lt q 24) [
        | inl low ↦
            let back : 8 + (8 + (q - 16)) ≡ q = omega arith in
            let back' : 16 + (q - 16) ≡ q = omega arith in
            let there : (bit_at c (q - 16) ≡ 1) ↔ P q = rw back' at (third (q - 16) (omega arith)) in
            subst (λ (k : ℕ). (bit_at n k ≡ 1) ↔ P q) back (rw (at_third (q - 16) (omega arith)) there)
        | inr top ↦
            let back : 24 ≡ q = omega arith in
            let bit : bit_at n 24 ≡ d = at_last 0 ∙ single d w in
            subst (λ (k : ℕ). (bit_at n k ≡ 1) ↔ P k) back (rw bit last)
      ]
    ]
  ] where
    single : (k : ℕ) → k < 2 → bit_at k 0 ≡ k
    single k small = omega arith

  pub marks_of_bytes : Marks P n 25
  marks_of_bytes = (inside, λ q above. bit_at_above n 25 q (omega arith) above)

-- ---- what a bit says of a count
pub held_bit : (own : List ℕ) (bit v i j : ℕ) → bit ≡ (v + 127) / 128 → v ≡ get_or own i 0 → v ≤ 15 → i ≡ j → (bit ≡ 1) ↔ (0 < get_or own j 0)
held_bit own bit v i j is there few same =
    let count : v ≡ get_or own j 0 = there ∙ ap (λ k. get_or own k 0) same in
    (λ on. omega arith, λ some. omega arith)

pub blocked_bit : (other : List ℕ) (bit v i j : ℕ) → bit ≡ (v + 126) / 128 → v ≡ get_or other i 0 → v ≤ 15 → i ≡ j → (bit ≡ 1) ↔ (2 ≤ get_or other j 0)
blocked_bit other bit v i j is there few same =
    let count : v ≡ get_or other j 0 = there ∙ ap (λ k. get_or other k 0) same in
    (λ on. omega arith, λ some. omega arith)

pub byte_small : (t : Bool) (d : ℕ) → d ≡ bool_byte t → d < 2
byte_small true d is = omega arith
byte_small false d is = omega arith

pub held_byte : (v d : ℕ) → d ≡ bool_byte (ltb 0 v) → (d ≡ 1) ↔ (0 < v)
held_byte v d is = elim (cases_lt 0 v) [
  | inl some ↦ (let on : d ≡ 1 = is ∙ ap bool_byte (lt-ltb 0 v some) in (λ _. some, λ _. on))
  | inr none ↦ (let off : d ≡ 0 = is ∙ ap bool_byte (le-ltb 0 v none) in (λ on. absurd (omega arith), λ some. absurd (omega arith)))
]

pub blocked_byte : (v d : ℕ) → d ≡ bool_byte (ltb 1 v) → (d ≡ 1) ↔ (2 ≤ v)
blocked_byte v d is = elim (cases_lt 1 v) [
  | inl some ↦ (let on : d ≡ 1 = is ∙ ap bool_byte (lt-ltb 1 v some) in (λ _. omega arith, λ _. on))
  | inr none ↦ (let off : d ≡ 0 = is ∙ ap bool_byte (le-ltb 1 v none) in (λ on. absurd (omega arith), λ some. absurd (omega arith)))
]
