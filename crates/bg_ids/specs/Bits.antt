-- Bits, and the text that an identifier has of them.
use Rattle.std.specs.Prelude.{◌==◌, ℕ, zero, suc, ◌+◌, ◌*◌, ◌/◌, ◌%◌, Bool, List, [], ◌∷◌, take, drop, if◌then◌else◌}
use Rattle.base64.specs.Engines.{standard_no_pad}
use Rattle.base64.specs.GeneralPurpose.{encode_of}

-- a number as so many bits, the one that counts 1 first, and then 2, 4 and so on
unfoldable pub number_bits : ℕ → ℕ → List Bool
number_bits zero n = []
number_bits (suc width) n = (n % 2 == 1) ∷ number_bits width (n / 2)

-- the number of bits, the first of which counts 1, and then 2, 4 and so on
abbrev pub bits_number : List Bool → ℕ
bits_number [] = 0
bits_number (bit ∷ bits) = (if bit then 1 else 0) + 2 * bits_number bits

-- so many bytes, each of eight bits. Where bits run out the others are zeros
unfoldable pub bits_bytes : ℕ → List Bool → List ℕ
bits_bytes zero bits = []
bits_bytes (suc n) bits = bits_number (take 8 bits) ∷ bits_bytes n (drop 8 bits)

-- so many bytes of bits in base64, with the alphabet that ends with + and /, and without padding
unfoldable pub bits_text : ℕ → List Bool → List ℕ
bits_text n bits = encode_of standard_no_pad (bits_bytes n bits)
