-- What the datagrams that were ever sent say.
use Rattle.std.specs.Prelude.{◌≡◌, ℕ, ◌+◌, Some, List, slice_get, Contains}
use Rattle.bg_board.specs.declared.players.Player.{Player}
use Rattle.bg_match.specs.Terms.{Terms, rules_of}
use Rattle.bg_match.specs.declared.actions.Action.{Action}
use Rattle.bg_match.specs.declared.entries.Entry.{Entry}
use Rattle.bg_match.specs.declared.limits.Rules.{Rules}
use Rattle.bg_wire.specs.Packets.PacketText.{IsText}
use Rattle.bg_wire.specs.Parties.{party_of}
use Rattle.bg_wire.specs.declared.packets.Datagram.{Datagram}
use Rattle.bg_wire.specs.declared.packets.Packet.{Packet}
use Rattle.bg_wire.specs.declared.packets.Packet.TheVariants as packet

-- the datagram goes to this party, and its bytes are the packet's text
abbrev pub Carries : Datagram → ℕ → Packet → Type 0
Carries d to p = (d.to ≡ to) × IsText p d.bytes

-- a datagram with this packet was sent to the party
abbrev pub WasSent : List Datagram → ℕ → Packet → Type 0
WasSent sent to p = (d : Datagram) × Contains sent d × Carries d to p

-- the seat of the player has claimed this action under this number: a datagram of its own said so
abbrev pub Claimed : List Datagram → Player → ℕ → Action → Type 0
Claimed sent player n action =
    (to id : ℕ) × (rules : Rules) × WasSent sent to (packet.Claim id rules (party_of player) n action)

-- the entry stood under this number in entries of this match that were sent to the party
pub record WasShown (id : ℕ) (terms : Terms) (sent : List Datagram) (party n : ℕ) (e : Entry) : Type 0 where
  pub start : ℕ
  pub list : List Entry
  pub came : WasSent sent party (packet.Entries id (rules_of terms) start list)
  pub place : ℕ
  pub number : start + place ≡ n
  pub stands : slice_get list place ≡ Some e
