-- Eight counts tested at once, as the bytes of one number.
use Rattle.std.proofs.Common.{◌≡◌, ℕ, zero, suc, ◌+◌, ◌*◌, ◌/◌, ◌^◌, ◌%◌, ◌<◌, ◌≤◌, min, List, [], ◌∷◌, get_or, sym, subst, ◌∙◌, ap, arith}
use Rattle.std.specs.Int.{bit_at}
use lib.Bits.{bit_and}
use Rattle.std.proofs.lemmas.Nat.Bits.{bit_at_and, same_from_bits}
use Rattle.bg_turns.proofs.Bits.Single.{bit_at-shr}

-- a one in each byte
abbrev pub each : ℕ
each = 72340172838076673

-- the bits above the lowest byte
pub above_byte : (d m q : ℕ) → d < 256 → bit_at (d + 256 * m) (8 + q) ≡ bit_at m q
above_byte d m q small =
    let rest : (d + 256 * m) / 2 ^ 8 ≡ m = omega arith in
    sym (bit_at-shr (d + 256 * m) 8 q) ∙ ap (λ n. bit_at n q) rest

-- the lowest bit of the lowest byte, and of those above it
and_byte : (x y z : ℕ) → x < 256 → bit_and (x + 256 * y) (1 + 256 * z) ≡ x % 2 + 256 * bit_and y z
and_byte x y z small = same_from_bits (bit_and (x + 256 * y) (1 + 256 * z)) (x % 2 + 256 * bit_and y z) bits where
  cut : (q : ℕ) → bit_at (1 + 256 * z) q ≡ 0 → bit_at (x % 2 + 256 * bit_and y z) q ≡ 0
      → bit_at (bit_and (x + 256 * y) (1 + 256 * z)) q ≡ bit_at (x % 2 + 256 * bit_and y z) q
  cut q none other = let both = bit_at_and (x + 256 * y) (1 + 256 * z) q in omega arith

  bits : (q : ℕ) → bit_at (bit_and (x + 256 * y) (1 + 256 * z)) q ≡ bit_at (x % 2 + 256 * bit_and y z) q
  bits zero =
      let both = bit_at_and (x + 256 * y) (1 + 256 * z) 0 in
      let one : bit_at (1 + 256 * z) 0 ≡ 1 = omega arith in
      let left : bit_at (x + 256 * y) 0 ≡ x % 2 = omega arith in
      let right : bit_at (x % 2 + 256 * bit_and y z) 0 ≡ x % 2 = omega arith in
      omega arith
  bits (suc zero) = cut 1 (omega arith) (omega arith)
  bits (suc (suc zero)) = cut 2 (omega arith) (omega arith)
  bits (suc (suc (suc zero))) = cut 3 (omega arith) (omega arith)
  bits (suc (suc (suc (suc zero)))) = cut 4 (omega arith) (omega arith)
  bits (suc (suc (suc (suc (suc zero))))) = cut 5 (omega arith) (omega arith)
  bits (suc (suc (suc (suc (suc (suc zero)))))) = cut 6 (omega arith) (omega arith)
  bits (suc (suc (suc (suc (suc (suc (suc zero))))))) = cut 7 (omega arith) (omega arith)
  bits (suc (suc (suc (suc (suc (suc (suc (suc q)))))))) =
      let same : 8 + q ≡ suc (suc (suc (suc (suc (suc (suc (suc q))))))) = omega arith in
      subst (λ n. bit_at (bit_and (x + 256 * y) (1 + 256 * z)) n ≡ bit_at (x % 2 + 256 * bit_and y z) n) same
      (bit_at_and (x + 256 * y) (1 + 256 * z) (8 + q)
      ∙ (ap (λ n. min n (bit_at (1 + 256 * z) (8 + q))) (above_byte x y q small)
      ∙ (ap (λ n. min (bit_at y q) n) (above_byte 1 z q (omega arith))
      ∙ (sym (bit_at_and y z q) ∙ sym (above_byte (x % 2) (bit_and y z) q (omega arith))))))

module _ (c0 c1 c2 c3 c4 c5 c6 c7 a : ℕ) (x0 : c0 ≤ 15) (x1 : c1 ≤ 15) (x2 : c2 ≤ 15) (x3 : c3 ≤ 15) (x4 : c4 ≤ 15) (x5 : c5 ≤ 15) (x6 : c6 ≤ 15) (x7 : c7 ≤ 15) (few : a ≤ 127) where
  abbrev sums : ℕ
  sums = c0 + c1 * 256 + c2 * 65536 + c3 * 16777216 + c4 * 4294967296 + c5 * 1099511627776 + c6 * 281474976710656 + c7 * 72057594037927936 + a * each

  pub sums_small : sums < 18446744073709551616
  sums_small = omega arith

  abbrev mark : ℕ → ℕ
  mark c = (c + a) / 128

  abbrev left : ℕ → ℕ
  left c = 2 * ((c + a) % 128)

  by_bytes : sums / 128 ≡ (mark c0 + left c1) + 256 * ((mark c1 + left c2) + 256 * ((mark c2 + left c3) + 256 * ((mark c3 + left c4) + 256 * ((mark c4 + left c5) + 256 * ((mark c5 + left c6) + 256 * ((mark c6 + left c7) + 256 * (mark c7 + 256 * 0)))))))
  by_bytes = omega arith

  abbrev marks : ℕ
  marks = bit_and (sums / 128) each

  marked : marks ≡ mark c0 + 256 * (mark c1 + 256 * (mark c2 + 256 * (mark c3 + 256 * (mark c4 + 256 * (mark c5 + 256 * (mark c6 + 256 * mark c7))))))
  marked =
      let e7 = and_byte (mark c7) 0 0 (omega arith) in
      let e6 = and_byte (mark c6 + left c7) (mark c7 + 256 * 0) 1 (omega arith) in
      let e5 = and_byte (mark c5 + left c6) ((mark c6 + left c7) + 256 * (mark c7 + 256 * 0)) 257 (omega arith) in
      let e4 = and_byte (mark c4 + left c5) ((mark c5 + left c6) + 256 * ((mark c6 + left c7) + 256 * (mark c7 + 256 * 0))) 65793 (omega arith) in
      let e3 = and_byte (mark c3 + left c4) ((mark c4 + left c5) + 256 * ((mark c5 + left c6) + 256 * ((mark c6 + left c7) + 256 * (mark c7 + 256 * 0)))) 16843009 (omega arith) in
      let e2 = and_byte (mark c2 + left c3) ((mark c3 + left c4) + 256 * ((mark c4 + left c5) + 256 * ((mark c5 + left c6) + 256 * ((mark c6 + left c7) + 256 * (mark c7 + 256 * 0))))) 4311810305 (omega arith) in
      let e1 = and_byte (mark c1 + left c2) ((mark c2 + left c3) + 256 * ((mark c3 + left c4) + 256 * ((mark c4 + left c5) + 256 * ((mark c5 + left c6) + 256 * ((mark c6 + left c7) + 256 * (mark c7 + 256 * 0)))))) 1103823438081 (omega arith) in
      let e0 = and_byte (mark c0 + left c1) ((mark c1 + left c2) + 256 * ((mark c2 + left c3) + 256 * ((mark c3 + left c4) + 256 * ((mark c4 + left c5) + 256 * ((mark c5 + left c6) + 256 * ((mark c6 + left c7) + 256 * (mark c7 + 256 * 0))))))) 282578800148737 (omega arith) in
      ap (λ n. bit_and n each) by_bytes ∙ omega (arith, e0, e1, e2, e3, e4, e5, e6, e7)

  abbrev found : ℕ
  found = marks * 72624976668147840 % 18446744073709551616 / 72057594037927936

  pub gathered : found ≡ mark c0 + 2 * mark c1 + 4 * mark c2 + 8 * mark c3 + 16 * mark c4 + 32 * mark c5 + 64 * mark c6 + 128 * mark c7
  gathered = ap (λ n. n * 72624976668147840 % 18446744073709551616 / 72057594037927936) marked ∙ omega arith

  pub found_0 : bit_at found 0 ≡ (c0 + a) / 128
  found_0 = ap (λ n. bit_at n 0) gathered ∙ omega arith

  pub found_1 : bit_at found 1 ≡ (c1 + a) / 128
  found_1 = ap (λ n. bit_at n 1) gathered ∙ omega arith

  pub found_2 : bit_at found 2 ≡ (c2 + a) / 128
  found_2 = ap (λ n. bit_at n 2) gathered ∙ omega arith

  pub found_3 : bit_at found 3 ≡ (c3 + a) / 128
  found_3 = ap (λ n. bit_at n 3) gathered ∙ omega arith

  pub found_4 : bit_at found 4 ≡ (c4 + a) / 128
  found_4 = ap (λ n. bit_at n 4) gathered ∙ omega arith

  pub found_5 : bit_at found 5 ≡ (c5 + a) / 128
  found_5 = ap (λ n. bit_at n 5) gathered ∙ omega arith

  pub found_6 : bit_at found 6 ≡ (c6 + a) / 128
  found_6 = ap (λ n. bit_at n 6) gathered ∙ omega arith

  pub found_7 : bit_at found 7 ≡ (c7 + a) / 128
  found_7 = ap (λ n. bit_at n 7) gathered ∙ omega arith

-- the same of a list
module _ (cs : List ℕ) (a : ℕ) (small : (i : ℕ) → get_or cs i 0 ≤ 15) (few : a ≤ 127) where
  pub list_small : sums (get_or cs 0 0) (get_or cs 1 0) (get_or cs 2 0) (get_or cs 3 0) (get_or cs 4 0) (get_or cs 5 0) (get_or cs 6 0) (get_or cs 7 0) a (small 0) (small 1) (small 2) (small 3) (small 4) (small 5) (small 6) (small 7) few < 18446744073709551616
  list_small = sums_small (get_or cs 0 0) (get_or cs 1 0) (get_or cs 2 0) (get_or cs 3 0) (get_or cs 4 0) (get_or cs 5 0) (get_or cs 6 0) (get_or cs 7 0) a (small 0) (small 1) (small 2) (small 3) (small 4) (small 5) (small 6) (small 7) few

  pub list_bits : (i : ℕ) → i < 8 → bit_at (found (get_or cs 0 0) (get_or cs 1 0) (get_or cs 2 0) (get_or cs 3 0) (get_or cs 4 0) (get_or cs 5 0) (get_or cs 6 0) (get_or cs 7 0) a (small 0) (small 1) (small 2) (small 3) (small 4) (small 5) (small 6) (small 7) few) i ≡ (get_or cs i 0 + a) / 128
  list_bits zero below = found_0 (get_or cs 0 0) (get_or cs 1 0) (get_or cs 2 0) (get_or cs 3 0) (get_or cs 4 0) (get_or cs 5 0) (get_or cs 6 0) (get_or cs 7 0) a (small 0) (small 1) (small 2) (small 3) (small 4) (small 5) (small 6) (small 7) few
  list_bits (suc zero) below = found_1 (get_or cs 0 0) (get_or cs 1 0) (get_or cs 2 0) (get_or cs 3 0) (get_or cs 4 0) (get_or cs 5 0) (get_or cs 6 0) (get_or cs 7 0) a (small 0) (small 1) (small 2) (small 3) (small 4) (small 5) (small 6) (small 7) few
  list_bits (suc (suc zero)) below = found_2 (get_or cs 0 0) (get_or cs 1 0) (get_or cs 2 0) (get_or cs 3 0) (get_or cs 4 0) (get_or cs 5 0) (get_or cs 6 0) (get_or cs 7 0) a (small 0) (small 1) (small 2) (small 3) (small 4) (small 5) (small 6) (small 7) few
  list_bits (suc (suc (suc zero))) below = found_3 (get_or cs 0 0) (get_or cs 1 0) (get_or cs 2 0) (get_or cs 3 0) (get_or cs 4 0) (get_or cs 5 0) (get_or cs 6 0) (get_or cs 7 0) a (small 0) (small 1) (small 2) (small 3) (small 4) (small 5) (small 6) (small 7) few
  list_bits (suc (suc (suc (suc zero)))) below = found_4 (get_or cs 0 0) (get_or cs 1 0) (get_or cs 2 0) (get_or cs 3 0) (get_or cs 4 0) (get_or cs 5 0) (get_or cs 6 0) (get_or cs 7 0) a (small 0) (small 1) (small 2) (small 3) (small 4) (small 5) (small 6) (small 7) few
  list_bits (suc (suc (suc (suc (suc zero))))) below = found_5 (get_or cs 0 0) (get_or cs 1 0) (get_or cs 2 0) (get_or cs 3 0) (get_or cs 4 0) (get_or cs 5 0) (get_or cs 6 0) (get_or cs 7 0) a (small 0) (small 1) (small 2) (small 3) (small 4) (small 5) (small 6) (small 7) few
  list_bits (suc (suc (suc (suc (suc (suc zero)))))) below = found_6 (get_or cs 0 0) (get_or cs 1 0) (get_or cs 2 0) (get_or cs 3 0) (get_or cs 4 0) (get_or cs 5 0) (get_or cs 6 0) (get_or cs 7 0) a (small 0) (small 1) (small 2) (small 3) (small 4) (small 5) (small 6) (small 7) few
  list_bits (suc (suc (suc (suc (suc (suc (suc zero))))))) below = found_7 (get_or cs 0 0) (get_or cs 1 0) (get_or cs 2 0) (get_or cs 3 0) (get_or cs 4 0) (get_or cs 5 0) (get_or cs 6 0) (get_or cs 7 0) a (small 0) (small 1) (small 2) (small 3) (small 4) (small 5) (small 6) (small 7) few
  list_bits (suc (suc (suc (suc (suc (suc (suc (suc k)))))))) below = absurd (omega arith)

pub eight_few : (a b c d e f g h : ℕ) → a ≤ 15 → b ≤ 15 → c ≤ 15 → d ≤ 15 → e ≤ 15 → f ≤ 15 → g ≤ 15 → h ≤ 15
    → (i : ℕ) → get_or (a ∷ b ∷ c ∷ d ∷ e ∷ f ∷ g ∷ h ∷ []) i 0 ≤ 15
eight_few a b c d e f g h p q r s t u v w zero = p
eight_few a b c d e f g h p q r s t u v w (suc zero) = q
eight_few a b c d e f g h p q r s t u v w (suc (suc zero)) = r
eight_few a b c d e f g h p q r s t u v w (suc (suc (suc zero))) = s
eight_few a b c d e f g h p q r s t u v w (suc (suc (suc (suc zero)))) = t
eight_few a b c d e f g h p q r s t u v w (suc (suc (suc (suc (suc zero))))) = u
eight_few a b c d e f g h p q r s t u v w (suc (suc (suc (suc (suc (suc zero)))))) = v
eight_few a b c d e f g h p q r s t u v w (suc (suc (suc (suc (suc (suc (suc zero))))))) = w
eight_few a b c d e f g h p q r s t u v w (suc (suc (suc (suc (suc (suc (suc (suc k)))))))) = omega arith
