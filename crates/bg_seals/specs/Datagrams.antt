-- The layout of a sealed datagram: a packet, and its tag.
use Rattle.std.specs.Prelude.{◌≡◌, ℕ, ◌+◌, ◌≤◌, List, ◌∷◌, ◌++◌, length, take, codes}
use Rattle.bg_seals.specs.Hmac.{hmac_sha256}
use Rattle.bg_seals.specs.declared.directions.Direction.{Direction}
use Rattle.bg_seals.specs.declared.directions.Direction.TheVariants.{ToReferee, FromReferee}

-- the most bytes of a packet that is sealed
abbrev pub most_packet_bytes : ℕ
most_packet_bytes = 128

-- the bytes of a tag
abbrev pub tag_bytes : ℕ
tag_bytes = 16

-- the most bytes of a sealed datagram
abbrev pub most_sealed_bytes : ℕ
most_sealed_bytes = most_packet_bytes + tag_bytes

-- what the text that a tag is of begins with
abbrev pub seal_label : List ℕ
seal_label = codes "bg_relay seal 1"

-- the byte by which a direction is named
abbrev pub direction_byte : Direction → ℕ
direction_byte ToReferee = 0
direction_byte FromReferee = 1

-- the text that a tag is of: the label, the direction, the party and the packet
abbrev pub sealed_text : Direction → ℕ → List ℕ → List ℕ
sealed_text direction party packet = seal_label ++ direction_byte direction ∷ party ∷ packet

-- the tag of a packet: HMAC-SHA-256 truncated to its first 16 bytes, or 128 bits
unfoldable pub tag : List ℕ → Direction → ℕ → List ℕ → List ℕ
tag key direction party packet = take tag_bytes (hmac_sha256 key (sealed_text direction party packet))

-- every tag has 16 bytes
abbrev pub TagsAreWhole : Type 0
TagsAreWhole = (key : List ℕ) (direction : Direction) (party : ℕ) (packet : List ℕ)
    → length (tag key direction party packet) ≡ tag_bytes

-- the datagram is the packet, sealed under this key for a way between the referee and this party
pub record IsSealed (key : List ℕ) (direction : Direction) (party : ℕ) (packet datagram : List ℕ) : Type 0 where
  pub fits : length packet ≤ most_packet_bytes
  pub bytes : datagram ≡ packet ++ tag key direction party packet

-- the datagram is no packet sealed so
abbrev pub IsNotSealed : List ℕ → Direction → ℕ → List ℕ → Type 0
IsNotSealed key direction party datagram = (packet : List ℕ) → IsSealed key direction party packet datagram → ⊥

-- a datagram is one packet sealed, if any
abbrev pub IsOfOnePacket : Type 0
IsOfOnePacket = (key : List ℕ) (direction : Direction) (party : ℕ) (datagram one other : List ℕ)
    → IsSealed key direction party one datagram → IsSealed key direction party other datagram → one ≡ other
