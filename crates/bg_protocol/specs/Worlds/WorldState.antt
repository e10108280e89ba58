-- The protocol's state of a world, and which worlds are reached.
use Rattle.std.specs.Prelude.{◌≡◌, ℕ, ◌+◌, true, false, List, Option, Some, None, IfSome, map, slice_get}
use Rattle.bg_board.specs.declared.players.Player.{Player}
use Rattle.bg_board.specs.declared.players.Player.TheVariants.{X, O}
use Rattle.bg_match.specs.Match.{Log}
use Rattle.bg_match.specs.Terms.{Terms}
use Rattle.bg_match.specs.declared.entries.Entry.{Entry}
use Rattle.bg_wire.specs.Entries.Codes.{seat_of_x, seat_of_o, first_watcher}
use Rattle.bg_wire.specs.Saved.Restoring.{SlotsRestore}
use Rattle.bg_wire.specs.Saved.SavedText.{SavedParts}
use Rattle.bg_wire.specs.Saved.SlotLaws.{Slots}
use Rattle.bg_referee.specs.Referee.{RefereeView}
use Rattle.bg_wire.specs.declared.packets.Datagram.{Datagram}
use Rattle.bg_party.specs.Views.{FollowerView, SeatView, WatcherView, IsEarly}
use Rattle.bg_protocol.specs.Protocol.Datagrams.{WasShown}
use Rattle.bg_protocol.specs.Protocol.Runs.{IsReached}
use Rattle.bg_protocol.specs.Protocol.Slots.{next_number}
use Rattle.bg_protocol.specs.Protocol.State.{ProtocolState, RefereeState, SeatState, restored_referee, restored_seat}
use Rattle.bg_protocol.specs.Worlds.Views.{KeeperView, WorldView}

-- what the slots of the three parties that save restore
pub record Restorable : Type 0 where
  pub referee : Option SavedParts
  pub x : Option SavedParts
  pub o : Option SavedParts

abbrev pub restorable_of : Restorable → Player → Option SavedParts
restorable_of r X = r.x
restorable_of r O = r.o

abbrev pub with_restorable : Restorable → Player → Option SavedParts → Restorable
with_restorable r X found = record r { x = found }
with_restorable r O found = record r { o = found }

-- ---- the state: a party that is down has what its slots restore

abbrev pub referee_state : Option RefereeView → Slots → Option SavedParts → RefereeState
referee_state None slots found = restored_referee slots found false
referee_state (Some core) slots found =
    record { up = true; log = core.log.entries; saved = core.saved; slots = slots; restorable = found }

abbrev pub seat_state : Option SeatView → Slots → Option SavedParts → SeatState
seat_state None slots found = restored_seat slots found false
seat_state (Some core) slots found = record {
  up = true;
  log = core.follower.log.entries;
  claim = core.claim;
  claim_saved = core.claim_saved;
  slots = slots;
  restorable = found;
}

abbrev pub watcher_entries : WatcherView → List Entry
watcher_entries core = core.follower.log.entries

abbrev pub protocol_state : WorldView → Restorable → ProtocolState
protocol_state w r = record {
  id = w.id;
  terms = w.terms;
  referee = referee_state w.referee w.referee_keeper.slots r.referee;
  x = seat_state w.x w.x_keeper.slots r.x;
  o = seat_state w.o w.o_keeper.slots r.o;
  watchers = map watcher_entries w.watchers;
  sent = w.link.sent;
}

-- ---- what the cores of a reached world know beside the state: their match and part, and the number of the next save

abbrev pub IsLogOf : ℕ → Terms → Log → Type 0
IsLogOf id terms log = (log.id ≡ id) × (log.terms ≡ terms)

pub record RefereeMatches (id : ℕ) (terms : Terms) (found : Option SavedParts) (core : RefereeView) : Type 0 where
  pub log : IsLogOf id terms core.log
  pub next : core.next_save ≡ next_number found

pub record SeatMatches
    (id : ℕ) (terms : Terms) (player : Player) (found : Option SavedParts) (core : SeatView) : Type 0 where
  pub sits_for : core.player ≡ player
  pub log : IsLogOf id terms core.follower.log
  pub next : core.next_save ≡ next_number found

pub record WatcherMatches (id : ℕ) (terms : Terms) (index : ℕ) (core : WatcherView) : Type 0 where
  pub party : core.party ≡ first_watcher + index
  pub log : IsLogOf id terms core.follower.log

-- the slots restore this, and the core, if it is up, matches it
abbrev pub Side : {C : Type 0} → (Option SavedParts → C → Type 0) → Option C → KeeperView → Option SavedParts → Type 0
Side CoreMatches core keeper found =
    SlotsRestore keeper.slots.zero keeper.slots.one found × IfSome core (CoreMatches found)

abbrev pub RefereeSide : ℕ → Terms → Option RefereeView → KeeperView → Option SavedParts → Type 0
RefereeSide id terms core keeper found = Side (RefereeMatches id terms) core keeper found

abbrev pub SeatSide : ℕ → Terms → Player → Option SeatView → KeeperView → Option SavedParts → Type 0
SeatSide id terms player core keeper found = Side (SeatMatches id terms player) core keeper found

abbrev pub WatchersMatch : ℕ → Terms → List WatcherView → Type 0
WatchersMatch id terms watchers =
    (index : ℕ) (core : WatcherView) → slice_get watchers index ≡ Some core → WatcherMatches id terms index core

pub record CoresMatch (w : WorldView) (r : Restorable) : Type 0 where
  pub referee : RefereeSide w.id w.terms w.referee w.referee_keeper r.referee
  pub x : SeatSide w.id w.terms X w.x w.x_keeper r.x
  pub o : SeatSide w.id w.terms O w.o w.o_keeper r.o
  pub watchers : WatchersMatch w.id w.terms w.watchers

-- ---- what followers keep beside their records

-- each early entry that the follower keeps stood under its number in entries that were sent to its
-- party
abbrev pub KeepsWhatWasShown : ℕ → Terms → List Datagram → ℕ → FollowerView → Type 0
KeepsWhatWasShown id terms sent party f = (n : ℕ) (e : Entry) → IsEarly f n e → WasShown id terms sent party n e

-- so it is of the seats that are up, and of the watchers
pub record AllKeepWhatWasShown (w : WorldView) : Type 0 where
  pub x : IfSome w.x (λ s. KeepsWhatWasShown w.id w.terms w.link.sent seat_of_x s.follower)
  pub o : IfSome w.o (λ s. KeepsWhatWasShown w.id w.terms w.link.sent seat_of_o s.follower)
  pub watchers : (index : ℕ) (core : WatcherView) → slice_get w.watchers index ≡ Some core
      → KeepsWhatWasShown w.id w.terms w.link.sent (first_watcher + index) core.follower

-- a run leads to the state of the world, its cores match that, and what they keep was shown to them
pub record IsReachedWorld (w : WorldView) : Type 0 where
  pub restorable : Restorable
  pub reached : IsReached (protocol_state w restorable)
  pub cores : CoresMatch w restorable
  pub early : AllKeepWhatWasShown w
