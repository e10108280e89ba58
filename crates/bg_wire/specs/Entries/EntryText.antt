-- The one text of each entry, and of each action.
use Rattle.std.specs.Prelude.{◌==◌, ◌*◌, ℕ, List, [], ◌∷◌, length, Option, Some, None, slice_get, if◌then◌else◌}
use Rattle.std.specs.List.{flat_map}
use Rattle.bg_board.specs.Die.{pips}
use Rattle.bg_board.specs.FromTo.{FromTo}
use Rattle.bg_board.specs.declared.dice.Die.{Die}
use Rattle.bg_match.specs.declared.actions.Action.{Action}
use Rattle.bg_match.specs.declared.actions.Action.TheVariants as action
use Rattle.bg_match.specs.declared.entries.Entry.{Entry}
use Rattle.bg_match.specs.declared.entries.Entry.TheVariants as entry
use Rattle.bg_match.specs.declared.levels.Level.{Level}
use Rattle.bg_match.specs.declared.levels.Level.TheVariants.{Normal, Gammon, Backgammon}
use Rattle.bg_wire.specs.Entries.Codes.{opening_code, rolled_code, doubled_code, taken_code, dropped_code, moved_code, resigned_code, accepted_code, rejected_code, normal_code, gammon_code, backgammon_code, passed_code}
use Rattle.bg_wire.specs.Entries.Fields.{Fields, Done, Field, bytes_each, first_byte}

abbrev pub step_bytes : FromTo → List ℕ
step_bytes step = step.from ∷ step.to ∷ []

-- the count of the steps, then each
abbrev pub turn_bytes : List FromTo → List ℕ
turn_bytes steps = length steps ∷ flat_map step_bytes steps

abbrev pub level_code : Level → ℕ
level_code Normal = normal_code
level_code Gammon = gammon_code
level_code Backgammon = backgammon_code

abbrev pub dice_bytes : Die → Die → List ℕ
dice_bytes first second = pips first ∷ pips second ∷ []

abbrev pub action_bytes : Action → List ℕ
action_bytes action.Roll = rolled_code ∷ []
action_bytes action.Double = doubled_code ∷ []
action_bytes action.Take = taken_code ∷ []
action_bytes action.Drop = dropped_code ∷ []
action_bytes (action.Move turn) = moved_code ∷ turn_bytes turn
action_bytes (action.Resign level) = resigned_code ∷ level_code level ∷ []
action_bytes action.Accept = accepted_code ∷ []
action_bytes action.Reject = rejected_code ∷ []

-- the fields of an action: its code, and what follows, each byte by itself
abbrev pub behind_code : ℕ → Fields
behind_code code =
    if code == moved_code then Field 1 (λ count. bytes_each (2 * first_byte count))
    else if code == resigned_code then Field 1 (λ level. Done)
    else Done

abbrev pub action_fields : Fields
action_fields = Field 1 (λ code. behind_code (first_byte code))

abbrev pub entry_bytes : Entry → List ℕ
entry_bytes (entry.Opening x o) = opening_code ∷ dice_bytes x o
entry_bytes (entry.Rolled dice) = rolled_code ∷ dice_bytes dice.first dice.second
entry_bytes entry.Doubled = doubled_code ∷ []
entry_bytes entry.Taken = taken_code ∷ []
entry_bytes entry.Dropped = dropped_code ∷ []
entry_bytes (entry.Moved turn) = moved_code ∷ turn_bytes turn
entry_bytes (entry.Resigned level) = resigned_code ∷ level_code level ∷ []
entry_bytes entry.Accepted = accepted_code ∷ []
entry_bytes entry.Rejected = rejected_code ∷ []
entry_bytes entry.Passed = passed_code ∷ []

-- one after the other
abbrev pub entries_bytes : List Entry → List ℕ
entries_bytes entries = flat_map entry_bytes entries

abbrev pub bytes_of : Option Entry → List ℕ
bytes_of None = []
bytes_of (Some e) = entry_bytes e

-- the text of the entry of this index, and none past the end
abbrev pub bytes_at : List Entry → ℕ → List ℕ
bytes_at entries index = bytes_of (slice_get entries index)
