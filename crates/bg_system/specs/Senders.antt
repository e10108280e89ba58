-- Which datagrams count: those that come from where their sender is, sealed by him.
use Rattle.std.specs.Prelude.{◌≡◌, ℕ, ◌+◌, ◌<◌, List, [], ◌∷◌, ◌⊎◌}
use Rattle.std.specs.Net.Socket.{socket_ip, socket_port}
use Rattle.std.specs.declared.net.ip_addr.IpAddr.TheVariants.{V4}
use Rattle.std.specs.declared.net.ipv4_addr.Ipv4Addr.{Ipv4Addr}
use Rattle.std.specs.declared.net.socket_addr.SocketAddr.{SocketAddr}
use Rattle.bg_wire.specs.Entries.Codes.{referee}
use Rattle.bg_wire.specs.Packets.PacketText.{IsText}
use Rattle.bg_wire.specs.declared.packets.Packet.{Packet}
use Rattle.bg_wire.specs.declared.packets.Packet.TheVariants as packet
use Rattle.bg_system.specs.Keyrings.{IsSealedBy}
use Rattle.bg_system.specs.declared.sockets.keyrings.Keyring.{Keyring}

-- 127.0.0.1
abbrev pub localhost : Ipv4Addr
localhost = record { octets = 127 ∷ 0 ∷ 0 ∷ 1 ∷ [] }

-- the address of a party of the match that has this port: on this machine, and as many ports above
-- as its number
abbrev pub IsAddressOf : ℕ → ℕ → SocketAddr → Type 0
IsAddressOf port party address = (socket_ip address ≡ V4 localhost) × (socket_port address ≡ port + party)

-- the party that a packet says it is from
abbrev pub sender_of : Packet → ℕ
sender_of (packet.Want id rules sender held) = sender
sender_of (packet.Claim id rules sender number action) = sender
sender_of (packet.Entries id rules start list) = referee

-- the address is no party's
abbrev pub HasNoParty : ℕ → SocketAddr → Type 0
HasNoParty port address = (party : ℕ) → party < 256 → IsAddressOf port party address → ⊥

-- the sign of life, which is no packet's text
abbrev pub sign_of_life : List ℕ
sign_of_life = 0 ∷ []

-- the bytes are the sign of life, or a packet that says it is from this party
abbrev pub IsWord : List ℕ → ℕ → Type 0
IsWord bytes party = (bytes ≡ sign_of_life) ⊎ ((p : Packet) × IsText p bytes × (sender_of p ≡ party))

-- a datagram that came to a party from an address says these bytes, from that party
pub record IsHeard
    (keys : Keyring) (port own : ℕ) (datagram : List ℕ) (from : SocketAddr) (party : ℕ) (bytes : List ℕ) : Type 0 where
  pub sent_there : IsAddressOf port party from
  pub sealed : IsSealedBy keys party own bytes datagram
  pub said : IsWord bytes party

-- it says nothing, from nobody
abbrev pub IsNotHeard : Keyring → ℕ → ℕ → List ℕ → SocketAddr → Type 0
IsNotHeard keys port own datagram from =
    (party : ℕ) (bytes : List ℕ) → party < 256 → IsHeard keys port own datagram from party bytes → ⊥
