-- What the seats have claimed.
use Rattle.std.specs.Prelude.{◌≡◌, ℕ, ◌≤◌, Option, Some, List}
use Rattle.bg_board.specs.declared.players.Player.{Player}
use Rattle.bg_match.specs.declared.actions.Action.{Action}
use Rattle.bg_wire.specs.declared.packets.Datagram.{Datagram}
use Rattle.bg_party.specs.Claims.{claim_number}
use Rattle.bg_protocol.specs.Protocol.Datagrams.{Claimed}

-- the seat has claimed this one action under the number
abbrev pub IsOnlyClaim : List Datagram → Player → ℕ → Action → Type 0
IsOnlyClaim sent player n action =
    Claimed sent player n action × ((other : Action) → Claimed sent player n other → other ≡ action)

-- the numbers that a seat has claimed are up to that of the claim which its slots restore, which is
-- the one at that number; and under one number it has claimed one action
pub record AreClaimsKept (sent : List Datagram) (player : Player) (restorable : Option (ℕ × Action)) : Type 0 where
  pub up_to : (n : ℕ) (a : Action) → Claimed sent player n a → n ≤ claim_number restorable
  pub same : (n : ℕ) (a : Action) → Claimed sent player n a → n ≡ claim_number restorable → restorable ≡ Some (n, a)
  pub one : (n : ℕ) (a b : Action) → Claimed sent player n a → Claimed sent player n b → a ≡ b
