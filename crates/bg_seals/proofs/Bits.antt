-- When an or of xors is 0, and what that says of two lists that are compared byte by byte.
use Rattle.std.proofs.Common.{◌≡◌, ℕ, ◌+◌, ◌<◌, ◌≤◌, ◌↔◌, List, length, get_or, take, sym, ap, ◌∙◌, arith}
use Rattle.std.specs.Int.Bits.{bit_or, bit_xor, xor_self, xor_assoc, xor_zero_l, xor_zero_r}
use Rattle.std.proofs.lemmas.Nat.{le_or_l, le_or_r}
use Rattle.std.proofs.lemmas.List.{take_more_same, get_or-take, take-take}

or-zero_left : (a b : ℕ) → bit_or a b ≡ 0 → a ≡ 0
or-zero_left a b e = omega (arith, le_or_l a b)

or-zero_right : (a b : ℕ) → bit_or a b ≡ 0 → b ≡ 0
or-zero_right a b e = omega (arith, le_or_r a b)

xor-zero : (a b : ℕ) → bit_xor a b ≡ 0 → a ≡ b
xor-zero a b e =
    sym (xor_zero_r a) ∙ ap (bit_xor a) (sym (xor_self b)) ∙ sym (xor_assoc a b b)
    ∙ ap (λ x. bit_xor x b) e ∙ xor_zero_l b

or-xor-same : (d a b : ℕ) → d ≡ 0 → a ≡ b → bit_or d (bit_xor a b) ≡ 0
or-xor-same d a b p q =
    ap (λ x. bit_or x (bit_xor a b)) p ∙ ap (λ x. bit_xor x b) q ∙ xor_self b

module _ (xs ys : List ℕ) (i : ℕ) where
  first_same : take (i + 1) xs ≡ take (i + 1) ys → take i xs ≡ take i ys
  first_same e =
      let within : i ≤ i + 1 = omega arith in
      sym (take-take i (i + 1) xs within) ∙ ap (take i) e ∙ take-take i (i + 1) ys within

  last_same : take (i + 1) xs ≡ take (i + 1) ys → get_or xs i 0 ≡ get_or ys i 0
  last_same e =
      let within : i < i + 1 = omega arith in
      sym (get_or-take (i + 1) xs i 0 within) ∙ ap (λ zs. get_or zs i 0) e
      ∙ get_or-take (i + 1) ys i 0 within

  -- a difference that takes in the bytes at i
  pub same_with_next : (d : ℕ) → i < length xs → i < length ys
      → ((d ≡ 0) ↔ (take i xs ≡ take i ys))
      → (bit_or d (bit_xor (get_or xs i 0) (get_or ys i 0)) ≡ 0)
      ↔ (take (i + 1) xs ≡ take (i + 1) ys)
  same_with_next d p q e = (
    (λ zero. take_more_same xs ys i 0 p q (e.0 (or-zero_left d _ zero))
        (xor-zero _ _ (or-zero_right d _ zero))),
    (λ same. or-xor-same d _ _ (e.1 (first_same same)) (last_same same)),
  )
