-- What the calls of a world come to: over any devices, and over honest ones.
use Rattle.std.specs.Prelude.{◌≡◌, ℕ, Bool, true, false, List, [], ◌∷◌, length, count_by, Result, Err}
use Rattle.bg_referee.specs.declared.outcomes.DueFault.{DueFault}
use Rattle.bg_referee.specs.declared.outcomes.DueFault.TheVariants as due_faults
use Rattle.bg_referee.specs.declared.outcomes.TakeOutcome.{TakeOutcome}
use Rattle.bg_referee.specs.declared.outcomes.TakeOutcome.TheVariants as takes
use Rattle.bg_party.specs.declared.outcomes.Learned.{Learned}
use Rattle.bg_party.specs.declared.outcomes.Learned.TheVariants as learns
use Rattle.bg_protocol.specs.Worlds.Calls.{Calls}
use Rattle.bg_protocol.specs.Protocol.Runs.{Run}
use Rattle.bg_protocol.specs.Protocol.Step.{Step}
use Rattle.bg_protocol.specs.Worlds.Views.{WorldView}
use Rattle.bg_protocol.specs.Worlds.WorldState.{IsReachedWorld, protocol_state}
use Rattle.bg_protocol.specs.declared.events.Event.{Event}
use Rattle.bg_protocol.specs.declared.events.Outcome.{Outcome}
use Rattle.bg_protocol.specs.declared.events.Outcome.TheVariants as outcomes
use Rattle.bg_protocol.specs.declared.worlds.runs.RunReport.{RunReport}

-- from a reached world the event is a step of the protocol, and leaves a reached world
abbrev pub StepsProtocol : WorldView → Event → Outcome → WorldView → Type 0
StepsProtocol old event result new =
    (before : IsReachedWorld old)
    → (after : IsReachedWorld new)
    × Step (protocol_state old before.restorable) event result (protocol_state new after.restorable)

-- ---- what a report counts

abbrev pub is_due_memory : Result ℕ DueFault → Bool
is_due_memory (Err due_faults.Memory) = true
is_due_memory _ = false

abbrev pub is_take_memory : TakeOutcome → Bool
is_take_memory takes.Memory = true
is_take_memory _ = false

abbrev pub is_learn_memory : Learned → Bool
is_learn_memory learns.Memory = true
is_learn_memory _ = false

-- memory was wanted, in any place
abbrev pub is_memory : Outcome → Bool
is_memory (outcomes.Due result) = is_due_memory result
is_memory (outcomes.Took took) = is_take_memory took
is_memory (outcomes.Learned learned) = is_learn_memory learned
is_memory outcomes.Memory = true
is_memory _ = false

-- a device failed, or what the slots have restores nothing for the party
abbrev pub is_fault : Outcome → Bool
is_fault outcomes.LinkFault = true
is_fault outcomes.SaveFault = true
is_fault (outcomes.RestoreFault cause) = true
is_fault _ = false

-- the report counts the events, the outcomes with want of memory, and the faults
pub record Reports (report : RunReport) (events : List Event) (outcomes : List Outcome) : Type 0 where
  pub done : report.done ≡ length events
  pub memory : report.memory ≡ count_by is_memory outcomes
  pub faults : report.faults ≡ count_by is_fault outcomes

-- ---- whole runs

-- the calls of the events, one event after the other, with what each came to
abbrev pub CallsAll : Type 0 → Type 0 → WorldView → List Event → List Outcome → WorldView → Type 0
CallsAll link_honest keepers_honest old [] [] new = new ≡ old
CallsAll link_honest keepers_honest old (event ∷ events) (outcome ∷ outcomes) new =
    (mid : WorldView) × Calls link_honest keepers_honest old event outcome mid
    × CallsAll link_honest keepers_honest mid events outcomes new
CallsAll link_honest keepers_honest old _ _ new = ⊥

-- each event beside what it came to
abbrev pub history_of : List Event → List Outcome → List (Event × Outcome)
history_of (event ∷ events) (outcome ∷ outcomes) = (event, outcome) ∷ history_of events outcomes
history_of _ _ = []

-- from a reached world the events are a run of the protocol, with these outcomes, and leave a
-- reached world
abbrev pub RunsProtocol : WorldView → List Event → List Outcome → WorldView → Type 0
RunsProtocol old events outcomes new =
    (before : IsReachedWorld old)
    → (after : IsReachedWorld new)
    × Run (protocol_state old before.restorable) (history_of events outcomes) (protocol_state new after.restorable)

-- All events happen, in order, and the report counts what they come to.
pub record RunsCalls
    (link_honest keepers_honest : Type 0) (old : WorldView) (events : List Event) (report : RunReport)
    (new : WorldView) : Type 0 where
  pub outcomes : List Outcome
  pub calls : CallsAll link_honest keepers_honest old events outcomes new
  pub reports : Reports report events outcomes

-- All events happen, in order; the report counts; and over honest devices they are a run of the
-- protocol.
pub record RunsAll
    (link_honest keepers_honest : Type 0) (old : WorldView) (events : List Event) (report : RunReport)
    (new : WorldView) : Type 0 where
  pub outcomes : List Outcome
  pub calls : CallsAll link_honest keepers_honest old events outcomes new
  pub reports : Reports report events outcomes
  pub protocol : link_honest → keepers_honest → RunsProtocol old events outcomes new
