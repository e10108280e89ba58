-- Numbers as bits, and bits as numbers and bytes.
use Rattle.std.proofs.Common.{◌≡◌, ◌==◌, ◌<◌, ◌≤◌, ◌+◌, ◌-◌, ◌*◌, ◌/◌, ◌%◌, ◌^◌, ℕ, zero, suc, Bool, true, false, List, [], ◌∷◌, ◌++◌, length, take, drop, refl, ap, sym, ◌∙◌, arith, append_assoc}
use Rattle.std.specs.Prelude.{if◌then◌else◌, min}
use Rattle.std.proofs.Common.{get_or, drop-cons, add-one}
use Rattle.std.proofs.lemmas.List.{append-nil, take_min, drop_min}
use Rattle.std.proofs.Math.Pow.{pow_mono}
use mir.Val.{bool_byte}
use Rattle.std.proofs.Math.Nat.{pow-suc}
use Rattle.bg_ids.specs.Bits.{number_bits, bits_number, bits_bytes}

-- one bit more of a number
pub number_more : (a : List Bool) (width k n : ℕ) → k < width
    → a ++ number_bits (width - k) n ≡ (a ++ (n % 2 == 1) ∷ []) ++ number_bits (width - (k + 1)) (n / 2)
unfolding number_bits
number_more a width k n h =
    let e : width - k ≡ suc (width - (k + 1)) = omega arith in
    rw e (sym (append_assoc a ((n % 2 == 1) ∷ []) (number_bits (width - (k + 1)) (n / 2))))

-- bits have a number below the power of two of their length
pub bits_below : (bits : List Bool) → bits_number bits < 2 ^ length bits
bits_below [] = omega arith
bits_below (true ∷ bits) = omega (arith, bits_below bits, pow-suc 2 (length bits))
bits_below (false ∷ bits) = omega (arith, bits_below bits, pow-suc 2 (length bits))

pub power_more : (i : ℕ) → 2 ^ (i + 1) ≡ 2 ^ i * 2
power_more i = rw add-one (pow-suc 2 i)

-- one byte more of bits
pub bytes_more : (a : List ℕ) (count k : ℕ) (bits : List Bool) → k < count
    → a ++ bits_bytes (count - k) bits ≡ (a ++ bits_number (take 8 bits) ∷ []) ++ bits_bytes (count - (k + 1)) (drop 8 bits)
unfolding bits_bytes
bytes_more a count k bits h =
    let e : count - k ≡ suc (count - (k + 1)) = omega arith in
    rw e (sym (append_assoc a (bits_number (take 8 bits) ∷ []) (bits_bytes (count - (k + 1)) (drop 8 bits))))

pub length-bits_bytes : (count : ℕ) (bits : List Bool) → length (bits_bytes count bits) ≡ count
unfolding bits_bytes
length-bits_bytes zero bits = refl
length-bits_bytes (suc count) bits = ap suc (length-bits_bytes count (drop 8 bits))

pub number_step : (a b whole : List Bool) (width k n : ℕ) → k < width → a ++ number_bits (width - k) n ≡ whole
    → b ≡ a ++ (n % 2 == 1) ∷ [] → b ++ number_bits (width - (k + 1)) (n / 2) ≡ whole
number_step a b whole width k n h e f = rw f (sym (number_more a width k n h) ∙ e)

pub number_end : (a whole : List Bool) (width k n : ℕ) → width ≤ k → a ++ number_bits (width - k) n ≡ whole → a ≡ whole
unfolding number_bits
number_end a whole width k n h e =
    let none : width - k ≡ 0 = omega arith in
    sym (append-nil a) ∙ rw none at e

bit_step : (b : Bool) (number weight rest whole : ℕ) → number + weight * ((if b then 1 else 0) + 2 * rest) ≡ whole
    → (number + weight * bool_byte b) + weight * 2 * rest ≡ whole
bit_step true number weight rest whole h = omega (arith, h)
bit_step false number weight rest whole h = omega (arith, h)

pub byte_step : (bits : List Bool) (i number weight bit whole : ℕ) → i < length bits
    → number + weight * bits_number (drop i bits) ≡ whole → bit ≡ bool_byte (get_or bits i false)
    → (number + weight * bit) + weight * 2 * bits_number (drop (i + 1) bits) ≡ whole
byte_step bits i number weight bit whole h e is =
    rw (is, add-one) (bit_step (get_or bits i false) number weight (bits_number (drop (suc i) bits)) whole (rw (drop-cons bits i false) at e))

pub bits_of_byte : (bits : List Bool) → length bits ≤ 8 → bits_number bits < 256
bits_of_byte bits h = omega (arith, bits_below bits, pow_mono {i = length bits} {j = 8} h)

pub bytes_step : (a b whole : List ℕ) (count k byte at : ℕ) (bits front back : List Bool) → k < count
    → a ++ bits_bytes (count - k) bits ≡ whole → at ≡ min 8 (length bits) → front ≡ take at bits → back ≡ drop at bits
    → byte ≡ bits_number front → b ≡ a ++ byte ∷ [] → b ++ bits_bytes (count - (k + 1)) back ≡ whole
bytes_step a b whole count k byte at bits front back h e is f g n added =
    let first : front ≡ take 8 bits = f ∙ ap (λ j. take j bits) is ∙ take_min 8 bits in
    let rest : back ≡ drop 8 bits = g ∙ ap (λ j. drop j bits) is ∙ drop_min 8 bits in
    rw (added, n, first, rest) (sym (bytes_more a count k bits h) ∙ e)

pub bytes_end : (a whole : List ℕ) (count k : ℕ) (bits : List Bool) → count ≤ k → a ++ bits_bytes (count - k) bits ≡ whole → a ≡ whole
unfolding bits_bytes
bytes_end a whole count k bits h e =
    let none : count - k ≡ 0 = omega arith in
    sym (append-nil a) ∙ rw none at e
