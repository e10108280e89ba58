-- What stays in a step: the frames that the steps of each kind of event stand in.
use Rattle.std.specs.Prelude.{◌≡◌, ℕ, ◌≤◌, Bool, true, false, List, ◌++◌, length, slice_get, All, MatchOption}
use Rattle.bg_board.specs.declared.players.Player.{Player}
use Rattle.bg_match.specs.declared.entries.Entry.{Entry}
use Rattle.bg_wire.specs.declared.packets.Datagram.{Datagram}
use Rattle.bg_protocol.specs.declared.events.Outcome.{Outcome}
use Rattle.bg_protocol.specs.declared.events.Outcome.TheVariants as outcomes
use Rattle.bg_protocol.specs.Protocol.State.{ProtocolState, SeatState, with_seat}

-- the party is up and this happens; or it is down, the outcome says so, and nothing changes
abbrev pub IfUp : {S : Type 0} → Bool → S → Outcome → S → Type 0 → Type 0
IfUp true w o v Happens = Happens
IfUp false w o v Happens = (o ≡ outcomes.Down) × (v ≡ w)

-- a seat comes from one state to another, and nothing else changes
abbrev pub SeatChanges : ProtocolState → Player → ProtocolState → (SeatState → Type 0) → Type 0
SeatChanges w player v Becomes = (new : SeatState) × Becomes new × (v ≡ with_seat w player new)

-- there is no such party, the outcome says so, and nothing changes
abbrev pub NoParty : ProtocolState → Outcome → ProtocolState → Type 0
NoParty w o v = (o ≡ outcomes.NoSuchParty) × (v ≡ w)

-- there is a watcher of this index, to whose record this happens; or there is no such party
abbrev pub AtWatcher : ProtocolState → ℕ → Outcome → ProtocolState → (List Entry → Type 0) → Type 0
AtWatcher w index o v Happens = MatchOption (slice_get w.watchers index) (NoParty w o v) Happens

-- at most so many datagrams are sent, each of which may be, and nothing else changes
pub record SendsAtMost (may : Datagram → Type 0) (most : ℕ) (w v : ProtocolState) : Type 0 where
  pub out : List Datagram
  pub few : length out ≤ most
  pub each : All may out
  pub after : v ≡ record w { sent = w.sent ++ out }
