-- A sealed datagram is its packet and 16 bytes more.
use Rattle.std.proofs.Common.{◌≡◌, ◌≢◌, ℕ, ◌+◌, ◌-◌, ◌<◌, List, ◌++◌, length, take, drop, sym, ap, ◌∙◌, arith}
use Rattle.std.proofs.lemmas.List.{length-append, length-take-le}
use Rattle.std.proofs.Math.Seq.{take-append_seam, drop-append_seam}
use Rattle.sha2.proofs.Facts256.{length-sha256}
use Rattle.bg_seals.specs.Hmac.{hmac_sha256}
use Rattle.bg_seals.specs.Datagrams.{tag, sealed_text, TagsAreWhole, IsSealed, IsNotSealed, IsOfOnePacket}
use Rattle.bg_seals.specs.declared.directions.Direction.{Direction}

pub length-hmac : (key text : List ℕ) → length (hmac_sha256 key text) ≡ 32
unfolding hmac_sha256
length-hmac key text = length-sha256 _

pub length-tag : TagsAreWhole
unfolding tag
length-tag key direction party packet =
    let long = length-hmac key (sealed_text direction party packet) in
    length-take-le 16 (hmac_sha256 key (sealed_text direction party packet)) (omega (arith, long))

-- a text that is followed by 16 bytes
before_last : (packet last : List ℕ) → length last ≡ 16
    → take (length (packet ++ last) - 16) (packet ++ last) ≡ packet
before_last packet last e =
    let at : length (packet ++ last) - 16 ≡ length packet =
    omega (arith, length-append packet last, e) in
    ap (λ n. take n (packet ++ last)) at ∙ take-append_seam packet last

last_of : (packet last : List ℕ) → length last ≡ 16
    → drop (length (packet ++ last) - 16) (packet ++ last) ≡ last
last_of packet last e =
    let at : length (packet ++ last) - 16 ≡ length packet =
    omega (arith, length-append packet last, e) in
    ap (λ n. drop n (packet ++ last)) at ∙ drop-append_seam packet last

module _ (key : List ℕ) (direction : Direction) (party : ℕ) (datagram : List ℕ) where
  -- where the packet of a sealed datagram would stand
  abbrev front : List ℕ
  front = take (length datagram - 16) datagram

  -- and where its tag
  abbrev last : List ℕ
  last = drop (length datagram - 16) datagram

  module _ (packet : List ℕ) (s : IsSealed key direction party packet datagram) where
    long : length (tag key direction party packet) ≡ 16
    long = length-tag key direction party packet

    length-datagram : length datagram ≡ length packet + 16
    length-datagram =
        ap length s.bytes ∙ omega (arith, length-append packet (tag key direction party packet), long)

    packet_in : front ≡ packet
    packet_in = ap (λ d. take (length d - 16) d) s.bytes ∙ before_last packet _ long

    tag_in : last ≡ tag key direction party packet
    tag_in = ap (λ d. drop (length d - 16) d) s.bytes ∙ last_of packet _ long

  pub none_of_short : length datagram < 16 → IsNotSealed key direction party datagram
  none_of_short short packet s = omega (arith, short, length-datagram packet s)

  pub none_of_long : 128 < length front → IsNotSealed key direction party datagram
  none_of_long long packet s = omega (arith, long, s.fits, ap length (packet_in packet s))

  pub none_of_other_tag : tag key direction party front ≢ last → IsNotSealed key direction party datagram
  none_of_other_tag other packet s =
      other (ap (tag key direction party) (packet_in packet s) ∙ sym (tag_in packet s))

-- a datagram is one packet sealed
pub one_packet : IsOfOnePacket
one_packet key direction party datagram one other s t =
    sym (packet_in key direction party datagram one s) ∙ packet_in key direction party datagram other t
