-- What a hasher of HMAC-SHA-256 holds.
use Rattle.std.specs.Prelude.{ℕ, List, ◌++◌}
use Rattle.sha2.specs.Hashers.{Holds256}
use Rattle.bg_seals.specs.Hmac.{key_xor_ipad, key_xor_opad}
use Rattle.bg_seals.specs.declared.keyed_hashing.HmacSha256.{HmacSha256}

-- the hasher has this key and holds this text
abbrev pub HoldsText : HmacSha256 → List ℕ → List ℕ → Type 0
HoldsText hasher key text =
    Holds256 hasher.inner (key_xor_ipad key ++ text) × Holds256 hasher.outer (key_xor_opad key)
