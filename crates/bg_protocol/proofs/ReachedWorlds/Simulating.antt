-- A run over devices in memory, from a world where nothing has happened yet.
use Rattle.std.specs.Prelude.{◌≡◌, ℕ, List, Some}
use Rattle.std.proofs.Common.{refl, ap, ap₂, subst}
use Rattle.std.proofs.lemmas.List.Elements.{All-nil}
use Rattle.bg_wire.specs.Entries.Codes.{referee, seat_of_x, seat_of_o}
use Rattle.bg_protocol.specs.Worlds.Starts.{terms_in}
use Rattle.bg_protocol.specs.Worlds.DiceWords.{HandsIn, ShowsWord}
use Rattle.bg_protocol.specs.Worlds.Simulations.{IsEmptyPlan, IsOfWords, NoneFailed, Simulates, start_in_memory, unused_keeper, unused_link}
use Rattle.bg_protocol.specs.Protocol.State.{IsSetup, ProtocolState, protocol_start}
use Rattle.bg_protocol.specs.Protocol.Runs.{Run}
use Rattle.bg_protocol.specs.Worlds.Views.{WorldView}
use Rattle.bg_protocol.specs.Worlds.WorldRuns.{RunsAll, history_of}
use Rattle.bg_protocol.specs.Worlds.WorldState.{IsReachedWorld, protocol_state}
use Rattle.bg_protocol.specs.declared.events.Event.{Event}
use Rattle.bg_protocol.specs.declared.devices.plans.FailRead.{FailRead}
use Rattle.bg_protocol.specs.declared.devices.plans.FailSend.{FailSend}
use Rattle.bg_protocol.specs.declared.devices.plans.Plan.{Plan}
use Rattle.bg_protocol.specs.declared.devices.plans.Tear.{Tear}
use Rattle.bg_protocol.specs.declared.worlds.runs.RunReport.{RunReport}
use Rattle.bg_protocol.specs.declared.worlds.setups.Setup.{Setup}
use Rattle.bg_protocol.proofs.ReachedWorlds.DiceWords.{run_shows}
use Rattle.bg_protocol.proofs.ReachedWorlds.NoFailures.{IsSure, IsSureKeeper, all_sure, none_failed}
use Rattle.bg_protocol.proofs.Protocol.Reached.{reached}
use Rattle.bg_protocol.proofs.ReachedWorlds.Starting.{start_reached, start_state}

-- a run of a world over devices in memory from the start
abbrev RunsInMemory : Setup → Plan → List Event → RunReport → WorldView → Type 0
RunsInMemory setup plan events report new =
    RunsAll (Unit {0}) (Unit {0}) (start_in_memory setup plan) events report new

module _ (setup : Setup) (plan : Plan) (is_setup : IsSetup setup.id (terms_in setup) setup.watchers) where
  begin : IsReachedWorld (start_in_memory setup plan)
  begin =
      start_reached setup (unused_link plan) (unused_keeper referee plan) (unused_keeper seat_of_x plan)
      (unused_keeper seat_of_o plan) refl refl refl refl is_setup

  from_start : protocol_state (start_in_memory setup plan) begin.restorable ≡ protocol_start setup.id (terms_in setup) setup.watchers
  unfolding begin
  from_start =
      start_state setup (unused_link plan) (unused_keeper referee plan) (unused_keeper seat_of_x plan)
      (unused_keeper seat_of_o plan) refl refl refl refl is_setup

  pub simulates : (events : List Event) (report : RunReport) (new : WorldView)
      → RunsInMemory setup plan events report new → Simulates setup plan events report new
  simulates events report new h =
      let to = h.protocol tt tt begin in
      record {
        outcomes = h.outcomes;
        calls = h.calls;
        reports = h.reports;
        reached = to.0;
        run =
            subst (λ (w : ProtocolState). Run w (history_of events h.outcomes) (protocol_state new (to.0).restorable)) from_start
            to.1;
      }

  pub is_of_words : (events : List Event) (report : RunReport) (new : WorldView)
      → RunsInMemory setup plan events report new → IsOfWords events new
  is_of_words events report new h =
      let to = h.protocol tt tt begin in
      let w = protocol_state (start_in_memory setup plan) begin.restorable in
      record {
        reached = to.0;
        words = run_shows (HandsIn events) w events h.outcomes (protocol_state new (to.0).restorable)
            (reached w begin.reached) (λ word k. k) (All-nil (ShowsWord (HandsIn events))) to.1;
      }

sure_keeper : (party : ℕ) (plan : Plan) → IsEmptyPlan plan → IsSureKeeper (unused_keeper party plan)
sure_keeper party plan empty = record {
  party = party;
  plan =
      ap₂ (λ (tears : List Tear) (reads : List FailRead). Some (record { party = party; tears = tears; reads = reads }))
      empty.tears empty.reads;
  faults = refl;
}

sure_start : (setup : Setup) (plan : Plan) → IsEmptyPlan plan → IsSure (start_in_memory setup plan)
sure_start setup plan empty = record {
  link = record { plan = ap (λ (sends : List FailSend). Some sends) empty.sends; faults = refl };
  referee_keeper = sure_keeper referee plan empty;
  x_keeper = sure_keeper seat_of_x plan empty;
  o_keeper = sure_keeper seat_of_o plan empty;
}

pub empty_plan : (setup : Setup) (plan : Plan) (events : List Event) (report : RunReport) (new : WorldView)
    → RunsInMemory setup plan events report new → IsEmptyPlan plan → NoneFailed new
empty_plan setup plan events report new h empty =
    none_failed new (all_sure (Unit {0}) (Unit {0}) (start_in_memory setup plan) events h.outcomes new h.calls
    (sure_start setup plan empty))
