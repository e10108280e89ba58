-- Nodes of one match, any number for each party: each is handed devices of its own, over one
-- network and one store with a fence.
use Rattle.std.specs.Prelude.{◌≡◌, ◌⊎◌, ℕ, ◌+◌, ◌-◌, List, [], ◌∷◌, Option, Some, None, map}
use Rattle.bg_board.specs.declared.players.Player.{Player}
use Rattle.bg_board.specs.declared.players.Player.TheVariants.{X, O}
use Rattle.bg_match.specs.Terms.{Terms}
use Rattle.bg_party.specs.Views.{SeatView, WatcherView}
use Rattle.bg_referee.specs.Referee.{RefereeView}
use Rattle.bg_wire.specs.Entries.Codes.{first_watcher}
use Rattle.bg_wire.specs.Saved.Restoring.{SlotsRestore}
use Rattle.bg_wire.specs.Saved.SavedText.{SavedParts}
use Rattle.bg_wire.specs.Saved.SlotLaws.{Slots}
use Rattle.bg_wire.specs.declared.packets.Datagram.{Datagram}
use Rattle.bg_protocol.specs.Protocol.Slots.{next_number}
use Rattle.bg_protocol.specs.Worlds.WorldState.{Restorable}
use Rattle.bg_protocol.specs.declared.events.Outcome.{Outcome}
use Rattle.bg_protocol.specs.declared.events.Outcome.TheVariants as outcomes
use Rattle.bg_fences.specs.SharedMatches.{RefereeProcess, SeatProcess, WatcherProcess}
use Rattle.bg_fences.specs.SharedMatches.{Stored, SharedMatch}

-- The match, and how many watchers it has. What all share: the slots of each party that saves, and
-- every datagram that was ever sent. And the core of each node; one that is down, or has not begun,
-- has none.
pub record SharedNodes : Type 0 where
  pub id : ℕ
  pub terms : Terms
  pub watchers : ℕ
  pub referee_slots : Slots
  pub x_slots : Slots
  pub o_slots : Slots
  pub sent : List Datagram
  pub referees : List (Option RefereeView)
  pub xs : List (Option SeatView)
  pub os : List (Option SeatView)
  pub watching : List WatcherView

-- of the seat of a player
abbrev pub slots_of : SharedNodes → Player → Slots
slots_of m X = m.x_slots
slots_of m O = m.o_slots

abbrev pub cores_of : SharedNodes → Player → List (Option SeatView)
cores_of m X = m.xs
cores_of m O = m.os

abbrev pub with_seat_nodes : SharedNodes → Player → List (Option SeatView) → Slots → SharedNodes
with_seat_nodes m X cores slots = record m { xs = cores; x_slots = slots }
with_seat_nodes m O cores slots = record m { os = cores; o_slots = slots }

-- so many parties have numbers, from 0
abbrev pub all_parties : SharedNodes → ℕ
all_parties m = first_watcher + m.watchers

-- ---- the fence

-- the number is one more than that of the save that the slots restore
abbrev pub IsNextAt : Slots → ℕ → Type 0
IsNextAt slots number =
    (found : Option SavedParts) × SlotsRestore slots.zero slots.one found
    × (number ≡ next_number found)

-- nothing was written, and the node was not told otherwise
abbrev pub IsRefused : Slots → Outcome → Slots → Type 0
IsRefused old (outcomes.Saved k) new = ⊥
IsRefused old o new = new ≡ old

-- a save whose number is not the next one is refused
abbrev pub IsFenced : Slots → ℕ → Outcome → Slots → Type 0
IsFenced old number o new = IsNextAt old number ⊎ IsRefused old o new

-- the same of the save of a node, which has no number where the node is down
abbrev pub IsFencedAt : Slots → Option ℕ → Outcome → Slots → Type 0
IsFencedAt old None o new = new ≡ old
IsFencedAt old (Some number) o new = IsFenced old number o new

-- the number of a node's next save
abbrev pub referee_number : Option RefereeView → Option ℕ
referee_number None = None
referee_number (Some core) = Some core.next_save

abbrev pub seat_number : Option SeatView → Option ℕ
seat_number None = None
seat_number (Some core) = Some core.next_save

-- ---- what nodes are to the law of processes: each that is up is a process

abbrev pub process_of_referee : RefereeView → RefereeProcess
process_of_referee core =
    record { log = core.log.entries; saved = core.saved; last_save = core.next_save - 1 }

abbrev pub process_of_seat : SeatView → SeatProcess
process_of_seat core = record {
  log = core.follower.log.entries;
  claim = core.claim;
  claim_saved = core.claim_saved;
  last_save = core.next_save - 1;
}

abbrev pub process_of_watcher : WatcherView → WatcherProcess
process_of_watcher core =
    record { index = core.party - first_watcher; log = core.follower.log.entries }

abbrev pub held_by : {C P : Type 0} → (C → P) → List (Option C) → List P
held_by f [] = []
held_by f (None ∷ cores) = held_by f cores
held_by f (Some core ∷ cores) = f core ∷ held_by f cores

abbrev pub stored_in : Slots → Option SavedParts → Stored
stored_in slots restorable = record { slots = slots; restorable = restorable }

-- the match of these processes, where the slots restore this
abbrev pub processes_of : SharedNodes → Restorable → SharedMatch
processes_of m r = record {
  id = m.id;
  terms = m.terms;
  watchers = m.watchers;
  referee = stored_in m.referee_slots r.referee;
  x = stored_in m.x_slots r.x;
  o = stored_in m.o_slots r.o;
  sent = m.sent;
  referees = held_by process_of_referee m.referees;
  xs = held_by process_of_seat m.xs;
  os = held_by process_of_seat m.os;
  watching = map process_of_watcher m.watching;
}
