-- A match whose parties run in any number of processes at once: what all of them share, and what
-- each process holds by itself.
use Rattle.std.specs.Prelude.{◌≡◌, ℕ, true, Bool, Option, List, [], ◌∷◌, ◌++◌, replicate}
use Rattle.bg_board.specs.declared.players.Player.{Player}
use Rattle.bg_board.specs.declared.players.Player.TheVariants.{X, O}
use Rattle.bg_match.specs.Terms.{Terms}
use Rattle.bg_match.specs.declared.actions.Action.{Action}
use Rattle.bg_match.specs.declared.entries.Entry.{Entry}
use Rattle.bg_wire.specs.Saved.SavedText.{SavedParts}
use Rattle.bg_wire.specs.Saved.SlotLaws.{Slots, save_in}
use Rattle.bg_wire.specs.declared.packets.Datagram.{Datagram}
use Rattle.bg_protocol.specs.Protocol.Slots.{entries_in}
use Rattle.bg_protocol.specs.Protocol.State.{ProtocolState, RefereeState, SeatState}
use Rattle.bg_protocol.specs.Protocol.State.{restored_referee, restored_seat, with_seat}

-- what a process of the referee holds: its record, how many entries of it count as saved, and the
-- number of the save that it made last or began with, 0 where there was none
pub record RefereeProcess : Type 0 where
  pub log : List Entry
  pub saved : ℕ
  pub last_save : ℕ

-- of a seat: its record, its last claim and whether that is saved, and such a number
pub record SeatProcess : Type 0 where
  pub log : List Entry
  pub claim : Option (ℕ × Action)
  pub claim_saved : Bool
  pub last_save : ℕ

-- of a watcher: which watcher it is, and its record
pub record WatcherProcess : Type 0 where
  pub index : ℕ
  pub log : List Entry

-- what the store has of a party: its two slots, and what they restore
pub record Stored : Type 0 where
  pub slots : Slots
  pub restorable : Option SavedParts

-- The match, and how many watchers it has. What all share: the store, and every datagram that was
-- ever sent. And the processes that are there, any number for each party.
pub record SharedMatch : Type 0 where
  pub id : ℕ
  pub terms : Terms
  pub watchers : ℕ
  pub referee : Stored
  pub x : Stored
  pub o : Stored
  pub sent : List Datagram
  pub referees : List RefereeProcess
  pub xs : List SeatProcess
  pub os : List SeatProcess
  pub watching : List WatcherProcess

-- the entries that the match has: those of the newest save of the referee
abbrev pub settled : SharedMatch → List Entry
settled m = entries_in m.referee.restorable

-- what the store has of the seat of a player, and that seat's processes
abbrev pub stored_of : SharedMatch → Player → Stored
stored_of m X = m.x
stored_of m O = m.o

abbrev pub seats_of : SharedMatch → Player → List SeatProcess
seats_of m X = m.xs
seats_of m O = m.os

abbrev pub with_stored : SharedMatch → Player → Stored → SharedMatch
with_stored m X k = record m { x = k }
with_stored m O k = record m { o = k }

abbrev pub with_seats : SharedMatch → Player → List SeatProcess → SharedMatch
with_seats m X fs = record m { xs = fs }
with_seats m O fs = record m { os = fs }

-- ---- the state of the protocol that a process acts in: it takes itself for the only process of
-- ---- its party, and all other parties have what their slots restore

-- every party has what its slots restore
abbrev pub at_rest : SharedMatch → ProtocolState
at_rest m = record {
  id = m.id;
  terms = m.terms;
  referee = restored_referee m.referee.slots m.referee.restorable true;
  x = restored_seat m.x.slots m.x.restorable true;
  o = restored_seat m.o.slots m.o.restorable true;
  watchers = replicate m.watchers [];
  sent = m.sent;
}

-- the party that a process takes itself for: it holds what the process holds, and has the slots
-- that all share
abbrev pub referee_as_seen : Stored → RefereeProcess → RefereeState
referee_as_seen k p = record {
  up = true;
  log = p.log;
  saved = p.saved;
  slots = k.slots;
  restorable = k.restorable;
}

abbrev pub seat_as_seen : Stored → SeatProcess → SeatState
seat_as_seen k f = record {
  up = true;
  log = f.log;
  claim = f.claim;
  claim_saved = f.claim_saved;
  slots = k.slots;
  restorable = k.restorable;
}

abbrev pub seen_by_referee : SharedMatch → RefereeProcess → ProtocolState
seen_by_referee m p = record (at_rest m) { referee = referee_as_seen m.referee p }

abbrev pub seen_by_seat : SharedMatch → Player → SeatProcess → ProtocolState
seen_by_seat m q f = with_seat (at_rest m) q (seat_as_seen (stored_of m q) f)

-- ---- what a process holds after it acted, and what one holds that begins

abbrev pub referee_process : RefereeState → ℕ → RefereeProcess
referee_process r save = record { log = r.log; saved = r.saved; last_save = save }

abbrev pub seat_process : SeatState → ℕ → SeatProcess
seat_process f save =
    record { log = f.log; claim = f.claim; claim_saved = f.claim_saved; last_save = save }

-- it begins with what these slots restore
abbrev pub begun_referee : Stored → RefereeProcess
begun_referee k =
    referee_process (restored_referee k.slots k.restorable true) (save_in k.restorable)

abbrev pub begun_seat : Stored → SeatProcess
begun_seat k = seat_process (restored_seat k.slots k.restorable true) (save_in k.restorable)

-- ---- the processes of a party

-- one of them becomes these, none where it is gone, and all others stay
abbrev pub Becomes : {P : Type 0} → List P → P → List P → List P → Type 0
Becomes olds p after news =
    (front : List _) × (back : List _) × (olds ≡ front ++ p ∷ back)
    × (news ≡ front ++ after ++ back)
