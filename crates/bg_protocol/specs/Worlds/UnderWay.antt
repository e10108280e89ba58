-- A save in two steps: which one is under way at a node, and what ends it.
use Rattle.std.specs.Prelude.{◌≡◌, ℕ, Bool, true, false, if◌then◌else◌, Option, Some, None, Result, Ok, Err}
use Rattle.bg_wire.specs.Saved.SavedText.{SavedParts}
use Rattle.bg_referee.specs.declared.outcomes.TakeOutcome.TheVariants as takes
use Rattle.bg_party.specs.declared.outcomes.Learned.TheVariants as learns
use Rattle.bg_protocol.specs.declared.events.Outcome.{Outcome}
use Rattle.bg_protocol.specs.declared.events.Outcome.TheVariants as outcomes
use Rattle.bg_protocol.specs.declared.nodes.saves.Save.{Save}

-- what the next save of a party tells, where it is up; and its number
abbrev pub told_by : {C : Type 0} → (C → SavedParts) → Option C → Option SavedParts
told_by parts_of None = None
told_by parts_of (Some core) = Some (parts_of core)

abbrev pub next_of : {C : Type 0} → (C → SavedParts) → Option C → Option ℕ
next_of parts_of None = None
next_of parts_of (Some core) = Some (parts_of core).save

-- the save that is under way is the next one
abbrev pub IsUnderWay : {C : Type 0} → (C → SavedParts) → Option C → Option ℕ → Type 0
IsUnderWay parts_of core under_way = (save : ℕ) → under_way ≡ Some save → next_of parts_of core ≡ Some save

-- one that is begun is under way
abbrev pub under_way_from : Option ℕ → Result Save Outcome → Option ℕ
under_way_from old (Ok save) = Some save.number
under_way_from old (Err outcome) = old

-- an outcome by which the record or the claim has changed
abbrev pub is_change : Outcome → Bool
is_change (outcomes.Due (Ok number)) = true
is_change (outcomes.Took (takes.Accepted number)) = true
is_change (outcomes.Learned (learns.Grew count)) = true
is_change (outcomes.Chose (Ok number)) = true
is_change _ = false

-- such a change ends the save, whose text lacks it
abbrev pub under_way_after : Option ℕ → Outcome → Option ℕ
under_way_after old outcome = if is_change outcome then None else old
