-- HMAC-SHA-256 over lists of bytes, in the words of RFC 2104: K is the key, text the data, H the
-- hash, B the bytes of its block, and ipad and opad are the bytes 0x36 and 0x5C, B times each.
use Rattle.std.specs.Prelude.{ℕ, ◌-◌, List, ◌++◌, map, length, replicate, bit_xor, nat_le, if◌then◌else◌}
use Rattle.sha2.specs.Sha256.{sha256}

-- B of SHA-256
abbrev pub block_bytes : ℕ
block_bytes = 64

abbrev pub ipad_byte : ℕ
ipad_byte = 0x36

abbrev pub opad_byte : ℕ
opad_byte = 0x5C

-- a key of more than B bytes is hashed first
abbrev pub hashed_if_long : List ℕ → List ℕ
hashed_if_long key = if nat_le (length key) block_bytes then key else sha256 key

-- zeros are appended to a key, up to B bytes
abbrev pub zero_padded : List ℕ → List ℕ
zero_padded key = key ++ replicate (block_bytes - length key) 0

-- each byte of a block XOR the byte that a pad repeats
abbrev pub xored_with : ℕ → List ℕ → List ℕ
xored_with pad_byte block = map (λ byte. bit_xor byte pad_byte) block

-- K XOR ipad
unfoldable pub key_xor_ipad : List ℕ → List ℕ
key_xor_ipad key = xored_with ipad_byte (zero_padded (hashed_if_long key))

-- K XOR opad
unfoldable pub key_xor_opad : List ℕ → List ℕ
key_xor_opad key = xored_with opad_byte (zero_padded (hashed_if_long key))

-- HMAC (K, text) = H (K XOR opad, H (K XOR ipad, text)), 32 bytes
unfoldable pub hmac_sha256 : List ℕ → List ℕ → List ℕ
hmac_sha256 key text = sha256 (key_xor_opad key ++ sha256 (key_xor_ipad key ++ text))
