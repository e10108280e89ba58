-- What a call of one action comes to.
use Rattle.std.specs.Prelude.{◌≡◌, ℕ, List, Some}
use Rattle.bg_match.specs.Answers.{IsAnswer}
use Rattle.bg_match.specs.Match.{at_number}
use Rattle.bg_match.specs.declared.actions.Action.{Action}
use Rattle.bg_match.specs.declared.entries.Entry.{Entry}
use Rattle.bg_reports.specs.declared.endings.Ending.{Ending}
use Rattle.bg_reports.specs.declared.endings.Ending.TheVariants.{ActionRefused, Served}

-- the record has the entry of this number, and it answers the action
abbrev pub IsAnsweredAt : List Entry → Action → ℕ → Type 0
IsAnsweredAt entries action number = (e : Entry) × (at_number entries number ≡ Some e) × IsAnswer action e

-- the call is served exactly where the entry is there and answers the action; else the action
-- counts as refused
abbrev pub IsActEnding : List Entry → Action → ℕ → Ending → Type 0
IsActEnding entries action number Served = IsAnsweredAt entries action number
IsActEnding entries action number ActionRefused = IsAnsweredAt entries action number → ⊥
IsActEnding entries action number _ = ⊥
