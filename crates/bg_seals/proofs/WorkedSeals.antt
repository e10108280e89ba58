-- A worked datagram: a key that is derived, and a packet that is sealed under it, by values of
-- another program.
use Rattle.std.proofs.Common.{◌≡◌, ℕ, List, [], ◌∷◌, ◌++◌, refl, arith}
use Rattle.sha2.specs.Sha256.{sha256, digest_bytes, hash_after, compress, rounds, schedule, first_words}
use Rattle.bg_seals.specs.Hmac.{hmac_sha256, key_xor_ipad, key_xor_opad}
use Rattle.bg_seals.specs.Datagrams.{IsSealed, tag}
use Rattle.bg_seals.specs.Keys.{party_key}
use Rattle.bg_seals.specs.declared.directions.Direction.TheVariants.{ToReferee}

-- a secret: the bytes 0 to 31
abbrev secret : List ℕ
secret =
    0x00 ∷ 0x01 ∷ 0x02 ∷ 0x03 ∷ 0x04 ∷ 0x05 ∷ 0x06 ∷ 0x07 ∷ 0x08 ∷ 0x09 ∷ 0x0a ∷ 0x0b ∷ 0x0c
    ∷ 0x0d ∷ 0x0e ∷ 0x0f ∷ 0x10 ∷ 0x11 ∷ 0x12 ∷ 0x13 ∷ 0x14 ∷ 0x15 ∷ 0x16 ∷ 0x17 ∷ 0x18 ∷ 0x19
    ∷ 0x1a ∷ 0x1b ∷ 0x1c ∷ 0x1d ∷ 0x1e ∷ 0x1f ∷ []

-- the key that it gives party 3 of match 1
abbrev key : List ℕ
key =
    0xf2 ∷ 0x3c ∷ 0x90 ∷ 0x3e ∷ 0x8b ∷ 0xe5 ∷ 0xd0 ∷ 0x5a ∷ 0x05 ∷ 0x17 ∷ 0x7d ∷ 0x2a ∷ 0x64
    ∷ 0xc1 ∷ 0xf6 ∷ 0x04 ∷ 0x31 ∷ 0xee ∷ 0xa1 ∷ 0xd4 ∷ 0x2c ∷ 0x09 ∷ 0xd4 ∷ 0x1b ∷ 0x91 ∷ 0x52
    ∷ 0x47 ∷ 0x9e ∷ 0xa4 ∷ 0xe9 ∷ 0xf0 ∷ 0xa2 ∷ []

derived : party_key secret 1 3 ≡ key
unfolding hmac_sha256 key_xor_ipad key_xor_opad sha256 digest_bytes hash_after compress rounds schedule first_words
derived = refl

-- party 3 wants the entries of match 1 (docs/FORMATS.md, "Packets")
abbrev want : List ℕ
want =
    0x42 ∷ 0x47 ∷ 0x02 ∷ 0x01 ∷ 0x00 ∷ 0x00 ∷ 0x00 ∷ 0x00 ∷ 0x00 ∷ 0x00 ∷ 0x00 ∷ 0x01 ∷ 0x01
    ∷ 0x03 ∷ 0x00 ∷ 0x00 ∷ 0x00 ∷ 0x00 ∷ []

abbrev want_tag : List ℕ
want_tag =
    0xb4 ∷ 0xb5 ∷ 0x41 ∷ 0x3d ∷ 0x2c ∷ 0x34 ∷ 0x50 ∷ 0x73 ∷ 0x2b ∷ 0xa9 ∷ 0xdf ∷ 0xc5 ∷ 0x2f
    ∷ 0x8f ∷ 0xac ∷ 0xff ∷ []

-- its datagram to the referee
sealed_want : IsSealed key ToReferee 3 want (want ++ want_tag)
unfolding hmac_sha256 key_xor_ipad key_xor_opad sha256 digest_bytes hash_after compress rounds schedule first_words tag
sealed_want = record { fits = omega arith; bytes = refl }
