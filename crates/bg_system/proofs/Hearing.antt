-- What a datagram says is one thing.
use Rattle.std.proofs.Common.{◌≡◌, ℕ, List, Option, Some, None, MatchOption, subst}
use Rattle.std.specs.declared.net.socket_addr.SocketAddr.{SocketAddr}
use Rattle.bg_seals.specs.Datagrams.{IsSealed}
use Rattle.bg_seals.specs.declared.directions.Direction.{Direction}
use Rattle.bg_seals.proofs.Sealing.{one_packet}
use Rattle.bg_wire.specs.Entries.Codes.{referee}
use Rattle.bg_system.specs.Keyrings.{IsSealedBy, key_for, way}
use Rattle.bg_system.specs.Notices.{IsNoNotice, IsNotTold, IsTold, notice_text}
use Rattle.bg_system.specs.Senders.{IsAddressOf}
use Rattle.bg_system.specs.declared.sockets.keyrings.Keyring.{Keyring}
use Rattle.bg_system.specs.declared.sockets.notices.Presence.{Presence}

-- of one way there is one packet that is sealed so
one_of_way : (keys : Keyring) (at : Option (Direction × ℕ)) (datagram one other : List ℕ)
    → MatchOption at ⊥ (λ w. IsSealed (key_for keys w.1) w.0 w.1 one datagram)
    → MatchOption at ⊥ (λ w. IsSealed (key_for keys w.1) w.0 w.1 other datagram) → one ≡ other
one_of_way keys None datagram one other a b = absurd a
one_of_way keys (Some w) datagram one other a b = one_packet (key_for keys w.1) w.0 w.1 datagram one other a b

pub one_said : (keys : Keyring) (from to : ℕ) (datagram one other : List ℕ) → IsSealedBy keys from to one datagram
    → IsSealedBy keys from to other datagram → one ≡ other
one_said keys from to datagram one other = one_of_way keys (way from to) datagram one other

-- what was sealed for a seat tells it of the other one where it is a notice
pub told_by : (keys : Keyring) (port own : ℕ) (datagram : List ℕ) (from : SocketAddr) (bytes : List ℕ)
    (found : Option Presence) → IsAddressOf port referee from → IsSealedBy keys referee own bytes datagram
    → MatchOption found (IsNoNotice bytes) (λ p. bytes ≡ notice_text p)
    → MatchOption found (IsNotTold keys port own datagram from) (λ p. IsTold keys port own datagram from p)
told_by keys port own datagram from bytes None there sealed none =
    λ presence is. none presence (one_said keys referee own datagram bytes (notice_text presence) sealed is.sealed)
told_by keys port own datagram from bytes (Some presence) there sealed same =
    record {
      sent_there = there;
      sealed = subst (λ (b : List ℕ). IsSealedBy keys referee own b datagram) same sealed;
    }
