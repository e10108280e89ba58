-- What an automatic match comes to.
use Rattle.std.specs.Prelude.{◌≡◌, ℕ, zero, suc, ◌+◌, Bool, true, false, Option, Some, None, List, [], ◌++◌}
use Rattle.bg_match.specs.Match.{Log}
use Rattle.bg_match.specs.declared.limits.Rules.{Rules}
use Rattle.bg_streams.specs.declared.faults.EngineFault.TheVariants as engine
use Rattle.bg_text.specs.Boards.Transcript.{IsTranscript}
use Rattle.bg_wire.specs.Entries.Codes.{first_watcher}
use Rattle.bg_protocol.specs.Worlds.Calls.{Calls}
use Rattle.bg_world.specs.Texts.FinalText.{IsFinalText}
use Rattle.bg_protocol.specs.Worlds.Simulations.{IsEmptyPlan, Simulates, memory_view}
use Rattle.bg_protocol.specs.Worlds.Starts.{IsWorldFault, held_of, terms_in}
use Rattle.bg_protocol.specs.Worlds.Views.{WorldView}
use Rattle.bg_protocol.specs.Worlds.WorldRuns.{is_memory}
use Rattle.bg_protocol.specs.declared.events.Event.{Event}
use Rattle.bg_protocol.specs.declared.events.Outcome.{Outcome}
use Rattle.bg_protocol.specs.declared.events.Outcome.TheVariants.{SaveFault}
use Rattle.bg_protocol.specs.declared.devices.plans.Plan.{Plan}
use Rattle.bg_protocol.specs.declared.roles.Role.TheVariants as roles
use Rattle.bg_protocol.specs.Protocol.State.{IsSetup}
use Rattle.bg_protocol.specs.declared.worlds.runs.RunReport.{RunReport}
use Rattle.bg_world.specs.declared.texts.scripts.ScriptFault.{ScriptFault}
use Rattle.bg_world.specs.declared.texts.scripts.ScriptFault.TheVariants.{Engine, World}
use Rattle.bg_protocol.specs.declared.worlds.setups.Setup.{Setup}
use Rattle.bg_auto.specs.Attempts.{Notes, held_entries, restarts_referee, word_for}
use Rattle.bg_auto.specs.Schedule.{IsScheduled}
use Rattle.bg_auto.specs.Words.{event_words}
use Rattle.bg_auto.specs.declared.simulation.Simulation.{Simulation}

-- the match has the seed as its number
abbrev pub setup_of : ℕ → ℕ → Rules → ℕ → Setup
setup_of seed points rules watchers = record { id = seed; length = points; rules = rules; watchers = watchers }

-- there is no such world, or else memory ran out
abbrev pub IsSimFault : ScriptFault → Setup → Type 0
IsSimFault (World why) setup = IsWorldFault why setup
IsSimFault (Engine why) setup = IsSetup setup.id (terms_in setup) setup.watchers × (why ≡ engine.Memory)

-- memory was wanted: over devices in memory that never fail, a save fails for nothing else
abbrev pub wants_memory : Outcome → Bool
wants_memory SaveFault = true
wants_memory outcome = is_memory outcome

-- the event of index i happens: the one that the schedule's words choose, with the word for the
-- referee's next entry
pub record HappensAs (old : Simulation) (i : ℕ) (new : Simulation) : Type 0 where
  pub event : Event
  pub outcome : Outcome
  pub scheduled : IsScheduled (memory_view old.world) (first_watcher + old.watchers)
      (word_for old.seed old.dice.held old.dice.attempt) (event_words old.seed i).0 (event_words old.seed i).1 event
  pub calls : Calls (Unit {0}) (Unit {0}) (memory_view old.world) event outcome (memory_view new.world)
  pub notes : Notes old.dice (restarts_referee event) outcome
      (held_entries (held_of (memory_view new.world) roles.Referee)) new.dice
  pub has_memory : wants_memory outcome ≡ false
  pub seed : new.seed ≡ old.seed
  pub watchers : new.watchers ≡ old.watchers

-- n events happen, in order, from index 0 on
abbrev pub Runs : ℕ → Simulation → Simulation → Type 0
Runs zero old new = new ≡ old
Runs (suc n) old new = (before : Simulation) × Runs n old before × HappensAs before n new

-- what is printed of a world: the transcript of the referee's record, where it is up, and then the
-- final text
abbrev pub IsTranscriptOf : Option Log → List ℕ → Type 0
IsTranscriptOf None text = text ≡ []
IsTranscriptOf (Some log) text = IsTranscript log.terms log.entries text

abbrev pub IsPrinted : WorldView → List ℕ → Type 0
IsPrinted w text =
    (transcript : List ℕ) × (end : List ℕ) × IsTranscriptOf (held_of w roles.Referee) transcript × IsFinalText w end
    × (text ≡ transcript ++ end)

-- the start of the match that has the seed as its number: a run of no events, over devices that
-- never fail
pub record IsSimStart (setup : Setup) (start : Simulation) : Type 0 where
  pub plan : Plan
  pub report : RunReport
  pub none_fail : IsEmptyPlan plan
  pub world : Simulates setup plan [] report (memory_view start.world)
  pub dice : start.dice ≡ record { held = Some 0; attempt = 0 }
  pub seed : start.seed ≡ setup.id
  pub watchers : start.watchers ≡ setup.watchers

-- what is printed of an automatic match after so many events
pub record IsSimText (seed points : ℕ) (rules : Rules) (watchers steps : ℕ) (text : List ℕ) : Type 0 where
  pub start : Simulation
  pub end : Simulation
  pub starts : IsSimStart (setup_of seed points rules watchers) start
  pub runs : Runs steps start end
  pub printed : IsPrinted (memory_view end.world) text
