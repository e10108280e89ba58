-- What contracts see of a world: plain data.
use Rattle.std.specs.Prelude.{◌≡◌, ℕ, ◌+◌, List, Option, Some, Result, length, slice_get}
use Rattle.arrayvec.specs.ArrayVec.{ArrayVec}
use Rattle.bg_board.specs.declared.players.Player.{Player}
use Rattle.bg_board.specs.declared.players.Player.TheVariants.{X, O}
use Rattle.bg_match.specs.Terms.{Terms}
use Rattle.bg_wire.specs.Entries.Codes.{first_watcher}
use Rattle.bg_wire.specs.Saved.SlotLaws.{Slots}
use Rattle.bg_wire.specs.declared.packets.Datagram.{Datagram}
use Rattle.bg_referee.specs.Referee.{RefereeView}
use Rattle.bg_party.specs.Views.{SeatView, WatcherView}
use Rattle.bg_protocol.specs.Devices.Plan.{KeeperPlan}
use Rattle.bg_protocol.specs.declared.devices.DeviceFault.{DeviceFault}
use Rattle.bg_protocol.specs.declared.devices.Keeper as keeper
use Rattle.bg_protocol.specs.declared.devices.Link as link
use Rattle.bg_protocol.specs.declared.devices.plans.FailSend.{FailSend}

-- of a link: what was ever sent over it; which sends fail, where that is known, what is counted,
-- and the last take
pub record LinkView : Type 0 where
  pub plan : Option (List FailSend)
  pub sent : List Datagram
  pub faults : ℕ
  pub takes : ℕ
  pub sends : ℕ
  pub taken : Result (Option (ArrayVec ℕ)) DeviceFault

abbrev pub link_view : {L : Type 0} → link.Ghosts L → L → LinkView
link_view l device = record {
  plan = l.plan device;
  sent = l.sent device;
  faults = l.faults device;
  takes = l.takes device;
  sends = l.sends device;
  taken = l.taken device;
}

-- of a keeper: its slots; which calls fail, where that is known, what is counted, and what the last
-- write answered
pub record KeeperView : Type 0 where
  pub plan : Option KeeperPlan
  pub slots : Slots
  pub faults : ℕ
  pub writes : ℕ
  pub reads : ℕ
  pub written : Result (Unit {0}) DeviceFault

abbrev pub keeper_view : {K : Type 0} → keeper.Ghosts K → K → KeeperView
keeper_view k device = record {
  plan = k.plan device;
  slots = k.slots device;
  faults = k.faults device;
  writes = k.writes device;
  reads = k.reads device;
  written = k.written device;
}

-- of a world: its match, its link, the keepers of those who save, and the cores; a party that is
-- down has none
pub record WorldView : Type 0 where
  pub id : ℕ
  pub terms : Terms
  pub link : LinkView
  pub referee_keeper : KeeperView
  pub x_keeper : KeeperView
  pub o_keeper : KeeperView
  pub referee : Option RefereeView
  pub x : Option SeatView
  pub o : Option SeatView
  pub watchers : List WatcherView

-- the party of each watcher is the first watcher's and as many more as its index
abbrev pub AreNumbered : List WatcherView → Type 0
AreNumbered watchers =
    (index : ℕ) (core : WatcherView) → slice_get watchers index ≡ Some core → core.party ≡ first_watcher + index

-- so many parties have numbers, from 0
abbrev pub parties : WorldView → ℕ
parties w = first_watcher + length w.watchers

-- the core and the keeper of a player's seat
abbrev pub seat_core : WorldView → Player → Option SeatView
seat_core w X = w.x
seat_core w O = w.o

abbrev pub with_seat_core : WorldView → Player → Option SeatView → WorldView
with_seat_core w X core = record w { x = core }
with_seat_core w O core = record w { o = core }

abbrev pub seat_keeper : WorldView → Player → KeeperView
seat_keeper w X = w.x_keeper
seat_keeper w O = w.o_keeper

abbrev pub with_seat_keeper : WorldView → Player → KeeperView → WorldView
with_seat_keeper w X kept = record w { x_keeper = kept }
with_seat_keeper w O kept = record w { o_keeper = kept }
