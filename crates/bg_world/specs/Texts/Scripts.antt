-- How a script is read and played, line by line.
use Rattle.std.specs.Prelude.{◌≡◌, ℕ, ◌+◌, ◌≤◌, List, ◌++◌, length, map, Result, Ok, Err}
use Rattle.std.specs.List.{AllByRecursion}
use Rattle.bg_text.specs.Boards.BoardText.{lines_text}
use Rattle.bg_text.specs.Judge.Judging.{lines_of}
use Rattle.bg_text.specs.declared.faults.TextFault.{TextFault}
use Rattle.bg_world.specs.Texts.EventText.{IsEvent, event_text}
use Rattle.bg_world.specs.Texts.OutcomeText.{outcome_text}
use Rattle.bg_world.specs.Texts.ScriptText.{AreEventLines, IsRefusedAt}
use Rattle.bg_protocol.specs.Worlds.Simulations.{IsEmptyPlan, start_in_memory}
use Rattle.bg_protocol.specs.Worlds.Views.{WorldView}
use Rattle.bg_protocol.specs.Worlds.WorldRuns.{CallsAll}
use Rattle.bg_protocol.specs.declared.events.Event.{Event}
use Rattle.bg_protocol.specs.declared.events.Outcome.{Outcome}
use Rattle.bg_protocol.specs.declared.devices.plans.Plan.{Plan}
use Rattle.bg_protocol.specs.declared.worlds.setups.Setup.{Setup}

-- the lines are those of so many events, which happen, and the lines of what they come to are added
pub record PlaysLines
    (link_honest keepers_honest : Type 0) (old : WorldView) (lines : List (List ℕ)) (before after : List ℕ)
    (new : WorldView) (count : ℕ) : Type 0 where
  pub events : List Event
  pub outcomes : List Outcome
  pub good : AreEventLines lines events
  pub calls : CallsAll link_honest keepers_honest old events outcomes new
  pub added : after ≡ before ++ lines_text (map outcome_text outcomes)
  pub counted : count ≡ length events

-- so it is, or this is the first line that is no event's, and why
abbrev pub PlaysOrRefuses : Type 0 → Type 0 → WorldView → List (List ℕ) → List ℕ → List ℕ → WorldView
    → Result ℕ (ℕ × TextFault) → Type 0
PlaysOrRefuses link_honest keepers_honest old lines before after new (Ok count) =
    PlaysLines link_honest keepers_honest old lines before after new count
PlaysOrRefuses link_honest keepers_honest old lines before after new (Err place) =
    IsRefusedAt lines place.0 place.1

-- the events of the first lines have happened, and these bytes are left
pub record IsPartPlayed (link_honest keepers_honest : Type 0) (old : WorldView) (input : List ℕ)
    (before after : List ℕ) (new : WorldView) (count : ℕ) (rest : List ℕ) : Type 0 where
  pub events : List Event
  pub outcomes : List Outcome
  pub split : lines_of input ≡ map event_text events ++ lines_of rest
  pub good : AllByRecursion IsEvent events
  pub calls : CallsAll link_honest keepers_honest old events outcomes new
  pub added : after ≡ before ++ lines_text (map outcome_text outcomes)
  pub counted : count ≡ length events
  pub few : count + length rest ≤ length input

-- a world where nothing has happened yet, over devices in memory that never fail
abbrev pub IsStart : Setup → WorldView → Type 0
IsStart setup w = (plan : Plan) × IsEmptyPlan plan × (w ≡ start_in_memory setup plan)
