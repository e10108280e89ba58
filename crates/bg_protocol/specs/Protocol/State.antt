-- The state of the world: what each party holds, what its slots have, and every datagram that was
-- ever sent.
use Rattle.std.specs.Prelude.{ℕ, ◌<◌, ◌≤◌, ◌+◌, ◌-◌, ◌^◌, Bool, true, Option, Some, None, List, [], length, take}
use Rattle.std.specs.Prelude.{replicate, slice_get}
use Rattle.bg_board.specs.declared.players.Player.{Player}
use Rattle.bg_board.specs.declared.players.Player.TheVariants.{X, O}
use Rattle.bg_match.specs.Limits.{IsMatchLength}
use Rattle.bg_match.specs.Terms.{Terms, match_length}
use Rattle.bg_match.specs.declared.actions.Action.{Action}
use Rattle.bg_match.specs.declared.entries.Entry.{Entry}
use Rattle.bg_wire.specs.Entries.Codes.{first_watcher, last_watcher}
use Rattle.bg_wire.specs.Saved.SavedText.{SavedParts}
use Rattle.bg_wire.specs.declared.packets.Datagram.{Datagram}
use Rattle.bg_protocol.specs.declared.roles.Role.{Role}
use Rattle.bg_protocol.specs.declared.roles.Role.TheVariants.{Referee as AsReferee, Seat as AsSeat, Watcher as AsWatcher}
use Rattle.bg_protocol.specs.Protocol.Roles.{role}
use Rattle.bg_wire.specs.Saved.SlotLaws.{Slots}
use Rattle.bg_protocol.specs.Protocol.Slots.{claim_in, empty_slots, entries_in}

-- whether it is up, its record, and how many entries of it are saved; its slots, and what they
-- restore
pub record RefereeState : Type 0 where
  pub up : Bool
  pub log : List Entry
  pub saved : ℕ
  pub slots : Slots
  pub restorable : Option SavedParts

-- whether it is up, its record, its last claim and whether that is saved; its slots, and what they
-- restore
pub record SeatState : Type 0 where
  pub up : Bool
  pub log : List Entry
  pub claim : Option (ℕ × Action)
  pub claim_saved : Bool
  pub slots : Slots
  pub restorable : Option SavedParts

-- a match and its parties, of a watcher, who is never down, the record alone; and all datagrams
-- that were ever sent
pub record ProtocolState : Type 0 where
  pub id : ℕ
  pub terms : Terms
  pub referee : RefereeState
  pub x : SeatState
  pub o : SeatState
  pub watchers : List (List Entry)
  pub sent : List Datagram

-- the seat of the player
abbrev pub seat_in : ProtocolState → Player → SeatState
seat_in w X = w.x
seat_in w O = w.o

abbrev pub with_seat : ProtocolState → Player → SeatState → ProtocolState
with_seat w X new = record w { x = new }
with_seat w O new = record w { o = new }

abbrev pub Exists : ProtocolState → ℕ → Type 0
Exists w party = party < first_watcher + length w.watchers

-- the entries that the referee has saved
abbrev pub saved_log : ProtocolState → List Entry
saved_log w = take w.referee.saved w.referee.log

-- the record of a party, where there is such a party
abbrev pub log_as : ProtocolState → Role → Option (List Entry)
log_as w AsReferee = Some w.referee.log
log_as w (AsSeat player) = Some (seat_in w player).log
log_as w (AsWatcher index) = slice_get w.watchers index

abbrev pub log_of : ProtocolState → ℕ → Option (List Entry)
log_of w party = log_as w (role party)

-- so many watchers have numbers
abbrev pub most_watchers : ℕ
most_watchers = last_watcher + 1 - first_watcher

-- a match with this id and these terms may be followed by so many watchers
pub record IsSetup (id : ℕ) (terms : Terms) (watchers : ℕ) : Type 0 where
  pub id_fits : id < 2 ^ 64
  pub length_in_range : IsMatchLength (match_length terms)
  pub few : watchers ≤ most_watchers

-- a party with what its slots restore, all of which counts as saved; it is up, or down
abbrev pub restored_referee : Slots → Option SavedParts → Bool → RefereeState
restored_referee slots found up =
    let log = entries_in found in record { up = up; log = log; saved = length log; slots = slots; restorable = found }

abbrev pub restored_seat : Slots → Option SavedParts → Bool → SeatState
restored_seat slots r up =
    record { up = up; log = entries_in r; claim = claim_in r; claim_saved = true; slots = slots; restorable = r }

-- the start: all records, all slots and the list of datagrams are empty, there is no claim, and all
-- parties are up
abbrev pub protocol_start : ℕ → Terms → ℕ → ProtocolState
protocol_start id terms watchers = record {
  id = id;
  terms = terms;
  referee = restored_referee empty_slots None true;
  x = restored_seat empty_slots None true;
  o = restored_seat empty_slots None true;
  watchers = replicate watchers [];
  sent = [];
}
