-- What a script prints.
use Rattle.std.specs.Prelude.{◌≡◌, ◌⊎◌, ℕ, ◌+◌, ◌<◌, ◌≤◌, List, ◌∷◌, ◌++◌, length, map, Result, Err, codes}
use Rattle.std.specs.Fmt.{decimal}
use Rattle.std.specs.List.{AllByRecursion}
use Rattle.bg_streams.specs.declared.faults.EngineFault.TheVariants as engine
use Rattle.bg_text.specs.Boards.BoardText.{line_text, lines_text}
use Rattle.bg_text.specs.Judge.Judging.{IsTooLong, lines_of}
use Rattle.bg_text.specs.Limits.{most_bytes}
use Rattle.bg_text.specs.Judge.Reason.{text_reason}
use Rattle.bg_text.specs.declared.faults.TextFault.{TextFault}
use Rattle.bg_text.specs.declared.faults.TextFault.TheVariants.{NotALine}
use Rattle.bg_text.specs.declared.judging.verdicts.Verdict.{Verdict}
use Rattle.bg_text.specs.declared.judging.verdicts.Verdict.TheVariants.{Fine, Refused}
use Rattle.bg_world.specs.Texts.EventText.{IsEvent, IsEventTextFault, event_text}
use Rattle.bg_world.specs.Texts.FinalText.{IsFinalText}
use Rattle.bg_world.specs.Texts.OutcomeText.{outcome_text}
use Rattle.bg_protocol.specs.Worlds.Simulations.{IsEmptyPlan, start_in_memory}
use Rattle.bg_protocol.specs.Worlds.Starts.{terms_in, IsWorldFault}
use Rattle.bg_protocol.specs.Protocol.State.{IsSetup}
use Rattle.bg_protocol.specs.Worlds.Views.{WorldView}
use Rattle.bg_protocol.specs.Worlds.WorldRuns.{CallsAll}
use Rattle.bg_protocol.specs.declared.events.Event.{Event}
use Rattle.bg_protocol.specs.declared.events.Outcome.{Outcome}
use Rattle.bg_protocol.specs.declared.devices.plans.Plan.{Plan}
use Rattle.bg_world.specs.declared.texts.scripts.ScriptFault.{ScriptFault}
use Rattle.bg_world.specs.declared.texts.scripts.ScriptFault.TheVariants.{Engine, World}
use Rattle.bg_protocol.specs.declared.worlds.setups.Setup.{Setup}

-- the lines are the texts of the events
abbrev pub AreEventLines : List (List ℕ) → List Event → Type 0
AreEventLines lines events = (lines ≡ map event_text events) × AllByRecursion IsEvent events

abbrev pub event_reason : TextFault → List ℕ
event_reason NotALine = codes "not an event"
event_reason why = text_reason why

abbrev pub refused_event_line : ℕ → TextFault → List ℕ
refused_event_line number why = codes "refused at line " ++ decimal number ++ codes ": " ++ event_reason why

-- the line of this number, from 1, is the first that is no event's, and what is wrong with it
pub record IsRefusedAt (lines : List (List ℕ)) (number : ℕ) (why : TextFault) : Type 0 where
  pub events : List Event
  pub bad : List ℕ
  pub behind : List (List ℕ)
  pub split : lines ≡ map event_text events ++ bad ∷ behind
  pub good : AllByRecursion IsEvent events
  pub counted : number ≡ length events + 1
  pub fault : IsEventTextFault why bad

-- all lines are those of events: what each of these comes to in a world, one after the other, and
-- what it holds then
pub record IsPlayed (link_honest keepers_honest : Type 0) (old : WorldView) (lines : List (List ℕ)) (text : List ℕ)
    (verdict : Verdict) : Type 0 where
  pub events : List Event
  pub outcomes : List Outcome
  pub new : WorldView
  pub end : List ℕ
  pub good : AreEventLines lines events
  pub calls : CallsAll link_honest keepers_honest old events outcomes new
  pub ended : IsFinalText new end
  pub printed : text ≡ lines_text (map outcome_text outcomes) ++ end
  pub fine : verdict ≡ Fine (length events)

-- a line is no event's: that alone is said
pub record IsRefused (lines : List (List ℕ)) (text : List ℕ) (verdict : Verdict) : Type 0 where
  pub number : ℕ
  pub why : TextFault
  pub place : IsRefusedAt lines number why
  pub printed : text ≡ line_text (refused_event_line number why)
  pub refused : verdict ≡ Refused number

-- what is printed of an input by a world, and the verdict
abbrev pub IsTextFrom : Type 0 → Type 0 → WorldView → List ℕ → List ℕ → Verdict → Type 0
IsTextFrom link_honest keepers_honest old input text verdict =
    ((most_bytes < length input) × IsTooLong text verdict)
    ⊎ ((length input ≤ most_bytes)
    × (IsPlayed link_honest keepers_honest old (lines_of input) text verdict
    ⊎ IsRefused (lines_of input) text verdict))

-- the text of a script: its world is one where nothing has happened yet, over devices in memory
-- that never fail
abbrev pub IsScriptText : Setup → List ℕ → List ℕ → Verdict → Type 0
IsScriptText setup input text verdict =
    (plan : Plan) × IsEmptyPlan plan
    × IsTextFrom (Unit {0}) (Unit {0}) (start_in_memory setup plan) input text verdict

-- there is no such world; or there is one, and a device failed, or memory ran out
abbrev pub IsScriptFault : ScriptFault → Setup → Type 0
IsScriptFault (World why) setup = IsWorldFault why setup
IsScriptFault (Engine why) setup = IsSetup setup.id (terms_in setup) setup.watchers

-- how often the source and the sink failed: once each where the answer is their fault, and else not
-- at all
abbrev pub SourceFailsOnce : {T : Type 0} → Result T ScriptFault → ℕ → ℕ → Type 0
SourceFailsOnce (Err (Engine engine.Read)) before after = after ≡ before + 1
SourceFailsOnce _ before after = after ≡ before

abbrev pub SinkFailsOnce : {T : Type 0} → Result T ScriptFault → ℕ → ℕ → Type 0
SinkFailsOnce (Err (Engine engine.Write)) before after = after ≡ before + 1
SinkFailsOnce _ before after = after ≡ before
