-- What bits and bytes tell of each other.
use Rattle.std.proofs.Common.{◌≡◌, ◌==◌, ◌<◌, ◌+◌, ◌-◌, ◌*◌, ◌/◌, ◌%◌, ℕ, zero, suc, Bool, true, false, List, [], ◌∷◌, ◌++◌, length, take, drop, replicate, refl, ap, sym, ◌∙◌, arith, append_assoc}
use Rattle.std.specs.Prelude.{if◌then◌else◌}
use Rattle.std.specs.List.{flat_map}
use Rattle.std.proofs.Common.{inl, inr}
use Rattle.std.proofs.lemmas.Bool.{cases_lt}
use Rattle.std.proofs.lemmas.List.{append-nil, length-drop, length-take, take_all, take-append-drop, replicate-append-replicate}
use Rattle.std.proofs.Math.ListN.{drop_of_length-le}
use Rattle.base64.specs.Engines.{standard_no_pad}
use Rattle.base64.specs.GeneralPurpose.{IsBytes, decode_of, encode_of}
use Rattle.base64.proofs.EngineFacts.{decode_of-encode_of}
use Rattle.bg_ids.specs.Bits.{number_bits, bits_number, bits_bytes, bits_text}
use Rattle.bg_ids.proofs.Numbers.{bits_of_byte}

-- so many zeros
abbrev pub zeros : ℕ → List Bool
zeros n = replicate n false

pub bits_of_zero : (width : ℕ) → number_bits width 0 ≡ zeros width
unfolding number_bits
bits_of_zero zero = refl
bits_of_zero (suc width) = ap (λ t. false ∷ t) (bits_of_zero width)

low_bit : (b : Bool) (n : ℕ) → (((if b then 1 else 0) + 2 * n) % 2 == 1) ≡ b
low_bit true n = let e : (1 + 2 * n) % 2 ≡ 1 = omega arith in ap (λ k. k == 1) e
low_bit false n = let e : (0 + 2 * n) % 2 ≡ 0 = omega arith in ap (λ k. k == 1) e

high_bits : (b : Bool) (n : ℕ) → ((if b then 1 else 0) + 2 * n) / 2 ≡ n
high_bits true n = omega arith
high_bits false n = omega arith

-- bits, and the zeros that fill them up to a width
pub bits_again : (width : ℕ) (bits : List Bool) (rest : ℕ) → rest ≡ width - length bits
    → number_bits width (bits_number (take width bits)) ≡ take width bits ++ zeros rest
unfolding number_bits
bits_again zero bits rest e = let none : rest ≡ 0 = omega arith in rw none refl
bits_again (suc width) [] rest e = let all : rest ≡ suc width = omega arith in rw all (bits_of_zero (suc width))
bits_again (suc width) (b ∷ bits) rest e =
    rw (low_bit b (bits_number (take width bits)), high_bits b (bits_number (take width bits)))
    (ap (λ t. b ∷ t) (bits_again width bits rest (omega (arith, e))))

-- bits that begin a byte, and all bytes of zeros behind it
first_byte : (count : ℕ) (bits more : List Bool) (rest : ℕ) → length bits < 8 → length bits + rest ≡ 8 * suc count
    → more ≡ zeros (8 * count) → number_bits 8 (bits_number (take 8 bits)) ++ more ≡ bits ++ zeros rest
first_byte count bits more rest short e is =
    let fill : ℕ = 8 - length bits in
    let sum : fill + 8 * count ≡ rest = omega arith in
    let whole : take 8 bits ≡ bits = take_all 8 bits (omega arith) in
    ap (λ t. t ++ more) (bits_again 8 bits fill refl ∙ ap (λ t. t ++ zeros fill) whole)
    ∙ rw is (append_assoc bits (zeros fill) (zeros (8 * count)))
    ∙ ap (λ t. bits ++ t) (replicate-append-replicate fill (8 * count) false ∙ ap zeros sum)

-- the bits of all bytes are the bits, and zeros where these ran out
pub bits_of_bytes : (count : ℕ) (bits : List Bool) (rest : ℕ) → length bits + rest ≡ 8 * count
    → flat_map (number_bits 8) (bits_bytes count bits) ≡ bits ++ zeros rest
unfolding bits_bytes
bits_of_bytes zero [] rest e = let none : rest ≡ 0 = omega arith in rw none refl
bits_of_bytes zero (b ∷ bits) rest e = absurd (omega (arith, e))
bits_of_bytes (suc count) bits rest e =
    elim (cases_lt (length bits) 8) [
      | inl short ↦
          let none : drop 8 bits ≡ [] = drop_of_length-le bits {i = 8} (omega arith) in
          first_byte count bits _ rest short e (ap (λ t. flat_map (number_bits 8) (bits_bytes count t)) none ∙ bits_of_bytes count [] (8 * count) (omega arith))
      | inr long ↦
          let left : length (drop 8 bits) + rest ≡ 8 * count = omega (arith, length-drop 8 bits) in
          ap (λ t. t ++ flat_map (number_bits 8) (bits_bytes count (drop 8 bits))) (bits_again 8 bits 0 (omega arith) ∙ append-nil (take 8 bits))
          ∙ ap (λ t. take 8 bits ++ t) (bits_of_bytes count (drop 8 bits) rest left)
          ∙ sym (append_assoc (take 8 bits) (drop 8 bits) (zeros rest))
          ∙ ap (λ t. t ++ zeros rest) (take-append-drop 8 bits)
    ]

-- every byte is below 256
pub bytes_small : (count : ℕ) (bits : List Bool) → IsBytes (bits_bytes count bits)
unfolding bits_bytes
bytes_small zero bits i = omega arith
bytes_small (suc count) bits zero = bits_of_byte (take 8 bits) (omega (arith, length-take 8 bits))
bytes_small (suc count) bits (suc i) = bytes_small count (drop 8 bits) i

-- texts of as many bytes are equal only if these are
pub same_bytes : (a b : List ℕ) → IsBytes a → IsBytes b → encode_of standard_no_pad a ≡ encode_of standard_no_pad b → a ≡ b
same_bytes a b small low e =
    let one = decode_of-encode_of standard_no_pad a refl small in
    let other = decode_of-encode_of standard_no_pad b refl low in
    let both = sym one ∙ ap (λ t. decode_of standard_no_pad t) e ∙ other in
    cc both

-- and so are the bits that they are of
pub same_bits : (count : ℕ) (a b : List Bool) (x y : ℕ) → length a + x ≡ 8 * count → length b + y ≡ 8 * count
    → bits_text count a ≡ bits_text count b → a ++ zeros x ≡ b ++ zeros y
unfolding bits_text
same_bits count a b x y fits few e =
    let bytes = same_bytes (bits_bytes count a) (bits_bytes count b) (bytes_small count a) (bytes_small count b) e in
    sym (bits_of_bytes count a x fits) ∙ ap (flat_map (number_bits 8)) bytes ∙ bits_of_bytes count b y few
