-- A run over devices in memory, from a world where nothing has happened yet.
use Rattle.std.specs.Prelude.{◌≡◌, ℕ, ◌≤◌, List, [], Some, None, Ok}
use Rattle.bg_wire.specs.Entries.Codes.{referee, seat_of_x, seat_of_o}
use Rattle.bg_protocol.specs.Worlds.DiceWords.{ShowsWordsOf}
use Rattle.bg_protocol.specs.Devices.MemoryDevices.{memory_link_view, memory_keeper_view}
use Rattle.bg_protocol.specs.Protocol.Runs.{Run}
use Rattle.bg_protocol.specs.Protocol.Slots.{empty_slots}
use Rattle.bg_protocol.specs.Worlds.Starts.{terms_in, IsWorldFault, fresh_world}
use Rattle.bg_protocol.specs.Protocol.State.{IsSetup, protocol_start}
use Rattle.bg_protocol.specs.Worlds.Views.{KeeperView, LinkView, WorldView}
use Rattle.bg_protocol.specs.Worlds.WorldRuns.{CallsAll, Reports, history_of}
use Rattle.bg_protocol.specs.Worlds.WorldState.{IsReachedWorld, protocol_state}
use Rattle.bg_protocol.specs.declared.events.Event.{Event}
use Rattle.bg_protocol.specs.declared.events.Outcome.{Outcome}
use Rattle.bg_protocol.specs.declared.devices.memory_keeper.MemoryKeeper.{MemoryKeeper}
use Rattle.bg_protocol.specs.declared.devices.memory_net.MemoryNet.{MemoryNet}
use Rattle.bg_protocol.specs.declared.devices.plans.Plan.{Plan}
use Rattle.bg_protocol.specs.declared.worlds.runs.RunReport.{RunReport}
use Rattle.bg_protocol.specs.declared.worlds.setups.Setup.{Setup}
use Rattle.bg_protocol.specs.declared.worlds.setups.WorldFault.{WorldFault}
use Rattle.bg_protocol.specs.declared.worlds.setups.WorldFault.TheVariants as faults
use Rattle.bg_protocol.specs.declared.worlds.World.{World}

-- ---- the start

-- a link in memory that nothing was asked of, whose sends fail by the plan
abbrev pub unused_link : Plan → LinkView
unused_link plan =
    record { plan = Some plan.sends.items; sent = []; faults = 0; takes = 0; sends = 0; taken = Ok None }

-- the keeper in memory of a party that nothing was asked of, with empty slots, whose calls fail by
-- the plan
abbrev pub unused_keeper : ℕ → Plan → KeeperView
unused_keeper party plan = record {
  plan = Some (record { party = party; tears = plan.tears.items; reads = plan.reads.items });
  slots = empty_slots;
  faults = 0;
  writes = 0;
  reads = 0;
  written = Ok tt;
}

-- a world over such devices where nothing has happened yet
abbrev pub start_in_memory : Setup → Plan → WorldView
start_in_memory setup plan =
    fresh_world setup (unused_link plan) (unused_keeper referee plan) (unused_keeper seat_of_x plan)
    (unused_keeper seat_of_o plan)

-- a world over devices in memory, as contracts see it
abbrev pub memory_view : World MemoryNet MemoryKeeper → WorldView
memory_view w = record {
  id = w.id;
  terms = w.terms;
  link = memory_link_view w.link;
  referee_keeper = memory_keeper_view w.keepers.referee;
  x_keeper = memory_keeper_view w.keepers.x;
  o_keeper = memory_keeper_view w.keepers.o;
  referee = w.referee.core;
  x = w.x.core;
  o = w.o.core;
  watchers = w.watchers;
}

-- by the plan no call fails
pub record IsEmptyPlan (plan : Plan) : Type 0 where
  pub tears : plan.tears.items ≡ []
  pub sends : plan.sends.items ≡ []
  pub reads : plan.reads.items ≡ []

-- Why there is no simulation is why there is no world; but memory is wanted also for what the plan
-- says.
abbrev pub IsSimulationFault : WorldFault → Setup → Plan → Type 0
IsSimulationFault faults.Memory setup plan =
    IsSetup setup.id (terms_in setup) setup.watchers × (IsEmptyPlan plan → 1 ≤ setup.watchers)
IsSimulationFault fault setup plan = IsWorldFault fault setup

-- ---- the run

-- All events happen, in order, over devices in memory that fail by the plan; the report counts; and
-- they are a run of the protocol from its start, to the state of the new world.
pub record Simulates
    (setup : Setup) (plan : Plan) (events : List Event) (report : RunReport) (new : WorldView) : Type 0 where
  pub outcomes : List Outcome
  pub calls : CallsAll (Unit {0}) (Unit {0}) (start_in_memory setup plan) events outcomes new
  pub reports : Reports report events outcomes
  pub reached : IsReachedWorld new
  pub run : Run (protocol_start setup.id (terms_in setup) setup.watchers) (history_of events outcomes)
      (protocol_state new reached.restorable)

-- the dice of the referee's record are those of words that the events handed in
pub record IsOfWords (events : List Event) (w : WorldView) : Type 0 where
  pub reached : IsReachedWorld w
  pub words : ShowsWordsOf events (protocol_state w reached.restorable).referee.log

-- no device ever failed
pub record NoneFailed (w : WorldView) : Type 0 where
  pub link : w.link.faults ≡ 0
  pub referee_keeper : w.referee_keeper.faults ≡ 0
  pub x_keeper : w.x_keeper.faults ≡ 0
  pub o_keeper : w.o_keeper.faults ≡ 0
