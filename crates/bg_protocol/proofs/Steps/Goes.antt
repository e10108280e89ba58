-- The calls of an event on honest devices, from a reached world, are a step of the protocol, and
-- leave a reached world.
use Rattle.std.specs.Prelude.{◌≡◌, ℕ, zero, suc, ◌+◌, List, [], ◌∷◌}
use Rattle.std.proofs.Common.{refl, sym, subst, arith}
use Rattle.bg_board.specs.declared.players.Player.TheVariants.{X, O}
use Rattle.bg_wire.specs.Entries.Codes.{first_watcher}
use Rattle.bg_protocol.specs.declared.events.Event.{Event}
use Rattle.bg_protocol.specs.declared.events.Event.TheVariants as events
use Rattle.bg_protocol.specs.declared.events.Outcome.{Outcome}
use Rattle.bg_protocol.specs.declared.events.Outcome.TheVariants as outcomes
use Rattle.bg_protocol.specs.declared.worlds.runs.RunReport.{RunReport}
use Rattle.bg_protocol.specs.Worlds.Calls.{Calls, RestartCalls, SaveCalls, TakeCalls, TickCalls}
use Rattle.bg_protocol.specs.Protocol.Roles.{role}
use Rattle.bg_protocol.specs.Protocol.Runs.{Run}
use Rattle.bg_protocol.specs.Protocol.Step.{Step}
use Rattle.bg_protocol.specs.Worlds.Views.{WorldView}
use Rattle.bg_protocol.specs.Worlds.WorldRuns.{CallsAll, RunsAll, RunsCalls, RunsProtocol, StepsProtocol}
use Rattle.bg_protocol.specs.Worlds.WorldState.{AllKeepWhatWasShown, CoresMatch, IsReachedWorld, Restorable, protocol_state}
use Rattle.bg_protocol.proofs.Protocol.Invariant.{Inv}
use Rattle.bg_protocol.proofs.Protocol.Reached.{reached, reached_more}
use Rattle.bg_protocol.proofs.Steps.DueRows.{due_goes}
use Rattle.bg_protocol.proofs.Steps.RefereeRows.{take_referee_goes}
use Rattle.bg_protocol.proofs.Steps.EarlyRows.{still_keep}
use Rattle.bg_protocol.proofs.Protocol.Growth.{step_grows}
use Rattle.bg_protocol.proofs.Steps.FollowerRows.{take_seat_goes, take_watcher_goes}
use Rattle.bg_protocol.proofs.Steps.ChooseRows.{choose_goes}
use Rattle.bg_protocol.proofs.Steps.SaveRows.{save_referee_goes, save_seat_goes}
use Rattle.bg_protocol.proofs.Steps.TickRows.{tick_referee_goes, tick_seat_goes, tick_watcher_goes}
use Rattle.bg_protocol.proofs.Steps.RestartRows.{restart_referee_goes, restart_seat_goes, restart_watcher_goes}
use Rattle.bg_protocol.proofs.Steps.Sides.{StepsTo, goes_at}

watching : (i : ℕ) → suc (suc (suc i)) ≡ first_watcher + i
watching i = omega arith

module _ (w : WorldView) (c : Restorable) (link_honest keepers_honest : Type 0) (link : link_honest)
    (keepers : keepers_honest)
    (fits : CoresMatch w c) (kept : AllKeepWhatWasShown w) (inv : Inv (protocol_state w c)) where
  -- what the slots restore stays
  stays : (e : Event) (o : Outcome) (new : WorldView) → Step (protocol_state w c) e o (protocol_state new c) × CoresMatch new c
      → StepsTo w c e o new
  stays e o new h = record { restorable = c; step = h.0; cores = h.1 }

  -- the slots restore this then
  leaves : (e : Event) (o : Outcome) (new : WorldView)
      → (d : Restorable) × Step (protocol_state w c) e o (protocol_state new d) × CoresMatch new d → StepsTo w c e o new
  leaves e o new h = record { restorable = h.0; step = h.1; cores = h.2 }

  take_goes : (party pick word : ℕ) (o : Outcome) (new : WorldView)
      → TakeCalls link_honest w (role party) party pick word o new → StepsTo w c (events.Take party pick word) o new
  take_goes zero pick word o new h = take_referee_goes w c link_honest link 0 pick word o new fits inv h
  take_goes (suc zero) pick word o new h =
      stays (events.Take 1 pick word) o new (take_seat_goes w c link_honest link X pick word o new fits kept h)
  take_goes (suc (suc zero)) pick word o new h =
      stays (events.Take 2 pick word) o new (take_seat_goes w c link_honest link O pick word o new fits kept h)
  take_goes (suc (suc (suc i))) pick word o new h =
      stays (events.Take (suc (suc (suc i))) pick word) o new
      (take_watcher_goes w c link_honest link i (suc (suc (suc i))) pick word o new (watching i) fits kept h)

  save_goes : (party : ℕ) (o : Outcome) (new : WorldView) → SaveCalls keepers_honest w (role party) o new
      → StepsTo w c (events.Save party) o new
  save_goes zero o new h = save_referee_goes w c keepers_honest keepers o new fits inv h
  save_goes (suc zero) o new h =
      leaves (events.Save 1) o new (save_seat_goes w c keepers_honest keepers X o new fits inv h)
  save_goes (suc (suc zero)) o new h =
      leaves (events.Save 2) o new (save_seat_goes w c keepers_honest keepers O o new fits inv h)
  save_goes (suc (suc (suc i))) o new h =
      goes_at w c (events.Save (suc (suc (suc i)))) o outcomes.NoSuchParty new w h.0 h.1
      (record { restorable = c; step = (refl, refl); cores = fits })

  tick_goes : (party : ℕ) (o : Outcome) (new : WorldView) → TickCalls link_honest w (role party) o new
      → StepsTo w c (events.Tick party) o new
  tick_goes zero o new h = tick_referee_goes w c link_honest link o new fits h
  tick_goes (suc zero) o new h = stays (events.Tick 1) o new (tick_seat_goes w c link_honest link X o new fits h)
  tick_goes (suc (suc zero)) o new h =
      stays (events.Tick 2) o new (tick_seat_goes w c link_honest link O o new fits h)
  tick_goes (suc (suc (suc i))) o new h =
      stays (events.Tick (suc (suc (suc i)))) o new (tick_watcher_goes w c link_honest link i o new fits h)

  restart_goes : (party : ℕ) (o : Outcome) (new : WorldView)
      → RestartCalls keepers_honest w (role party) party o new → StepsTo w c (events.Restart party) o new
  restart_goes zero o new h =
      stays (events.Restart 0) o new (restart_referee_goes w c keepers_honest keepers o new fits inv h)
  restart_goes (suc zero) o new h =
      stays (events.Restart 1) o new (restart_seat_goes w c keepers_honest keepers X o new fits inv h)
  restart_goes (suc (suc zero)) o new h =
      stays (events.Restart 2) o new (restart_seat_goes w c keepers_honest keepers O o new fits inv h)
  restart_goes (suc (suc (suc i))) o new h =
      stays (events.Restart (suc (suc (suc i)))) o new
      (restart_watcher_goes w c keepers_honest i (suc (suc (suc i))) o new (watching i) fits h)

  step_goes : (e : Event) (o : Outcome) (new : WorldView) → Calls link_honest keepers_honest w e o new
      → StepsTo w c e o new
  step_goes (events.Due word) o new h = due_goes w c word o new fits h
  step_goes (events.Take party pick word) o new h = take_goes party pick word o new h
  step_goes (events.Choose player action) o new h = choose_goes w c player action o new fits h
  step_goes (events.Save party) o new h = save_goes party o new h
  step_goes (events.Tick party) o new h = tick_goes party o new h
  step_goes (events.Restart party) o new h = restart_goes party o new h

-- one event
pub goes : (link_honest keepers_honest : Type 0) (old : WorldView) (event : Event) (result : Outcome)
    (new : WorldView)
    → Calls link_honest keepers_honest old event result new → link_honest → keepers_honest
    → StepsProtocol old event result new
goes link_honest keepers_honest old event result new calls link keepers before =
    let w = protocol_state old before.restorable in
    let to = step_goes old before.restorable link_honest keepers_honest link keepers before.cores before.early
    (reached w before.reached) event result new calls in
    let grows = step_grows w event result (protocol_state new to.restorable) to.step in (
      record {
        restorable = to.restorable;
        reached = reached_more w event result (protocol_state new to.restorable) before.reached to.step;
        cores = to.cores;
        early = still_keep old before.restorable link_honest keepers_honest link before.cores before.early new grows.0
            grows.1 event result calls;
      },
      to.step,
    )

-- all events, one after the other
pub runs_protocol : (link_honest keepers_honest : Type 0) (old : WorldView) (events : List Event)
    (outcomes : List Outcome) (new : WorldView)
    → CallsAll link_honest keepers_honest old events outcomes new → link_honest → keepers_honest
    → RunsProtocol old events outcomes new
runs_protocol link_honest keepers_honest old [] [] new calls link keepers before =
    subst (λ (w : WorldView). (after : IsReachedWorld w)
    × Run (protocol_state old before.restorable) [] (protocol_state w after.restorable)) (sym calls) (before, refl)
runs_protocol link_honest keepers_honest old [] (o ∷ os) new calls link keepers before = absurd calls
runs_protocol link_honest keepers_honest old (e ∷ es) [] new calls link keepers before = absurd calls
runs_protocol link_honest keepers_honest old (e ∷ es) (o ∷ os) new calls link keepers before =
    let first = goes link_honest keepers_honest old e o calls.0 calls.1 link keepers before in
    let rest = runs_protocol link_honest keepers_honest calls.0 es os new calls.2 link keepers first.0 in
    (rest.0, (protocol_state calls.0 (first.0).restorable, first.1, rest.1))

-- the same of the calls that a report counts
pub runs_all : (link_honest keepers_honest : Type 0) (old : WorldView) (events : List Event) (report : RunReport)
    (new : WorldView)
    → RunsCalls link_honest keepers_honest old events report new
    → RunsAll link_honest keepers_honest old events report new
runs_all link_honest keepers_honest old events report new h = record {
  outcomes = h.outcomes;
  calls = h.calls;
  reports = h.reports;
  protocol = λ link keepers. runs_protocol link_honest keepers_honest old events h.outcomes new h.calls link keepers;
}
