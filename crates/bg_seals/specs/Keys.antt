-- The keys of a match, and what is shown of them.
use Rattle.std.specs.Prelude.{◌≡◌, ℕ, List, [], ◌∷◌, ◌++◌, length, codes}
use Rattle.std.specs.Int.{w64, to_be_bytes}
use Rattle.bg_seals.specs.Hmac.{hmac_sha256}

-- the bytes of a key, and of the secret that keys are derived from
abbrev pub key_bytes : ℕ
key_bytes = 32

-- what the text that a key is derived by begins with
abbrev pub key_label : List ℕ
key_label = codes "bg_relay key 1"

-- the text that a party's key is derived by: the label, the number of the match in 8 bytes, and the
-- party
abbrev pub key_text : ℕ → ℕ → List ℕ
key_text id party = key_label ++ to_be_bytes w64 id ++ party ∷ []

-- the key of a party of a match
abbrev pub party_key : List ℕ → ℕ → ℕ → List ℕ
party_key secret id party = hmac_sha256 secret (key_text id party)

-- every key that is derived has 32 bytes
abbrev pub KeysAreWhole : Type 0
KeysAreWhole = (secret : List ℕ) (id party : ℕ) → length (party_key secret id party) ≡ key_bytes

-- what a key is shown as, and what a secret
abbrev pub key_words : List ℕ
key_words = codes "Key(..)"

abbrev pub secret_words : List ℕ
secret_words = codes "MasterSecret(..)"
