-- What the readers of lines say of a line and of its parts.
use Rattle.std.specs.Prelude.{◌≡◌, ℕ, ◌<◌, List, [], length, Option, Result, Ok, Err}
use Rattle.std.specs.List.{AllByRecursion}
use Rattle.bg_board.specs.FromTo.{FromTo}
use Rattle.bg_board.specs.declared.players.Player.{Player}
use Rattle.bg_turns.specs.Turn.{IsDownward}
use Rattle.bg_match.specs.Entry.{IsEntry, IsAction, IsByReferee}
use Rattle.bg_match.specs.declared.actions.Action.{Action}
use Rattle.bg_match.specs.declared.actions.Action.TheVariants as action
use Rattle.bg_match.specs.declared.entries.Entry.{Entry}
use Rattle.bg_match.specs.declared.entries.Entry.TheVariants as entry
use Rattle.bg_text.specs.Entries.Words.{words_of, spaced}
use Rattle.bg_text.specs.Entries.EntryText.{entry_words, entry_text, action_text, IsSeatOf}
use Rattle.bg_text.specs.Entries.EntryShape.{IsSeatShape, HasDownwardSteps, IsEntryTextFault, IsActionTextFault}
use Rattle.bg_text.specs.declared.faults.TextFault.{TextFault}
use Rattle.bg_text.specs.declared.faults.TextFault.TheVariants.{NotALine, BadNumber, TooManySteps}

-- an action whose line is fixed: any but a move of some steps
abbrev pub IsFixed : Action → Type 0
IsFixed (action.Move steps) = steps ≡ []
IsFixed _ = Unit {0}

-- what a player replies to an offer
abbrev pub IsReply : Action → Type 0
IsReply action.Take = Unit {0}
IsReply action.Drop = Unit {0}
IsReply action.Accept = Unit {0}
IsReply action.Reject = Unit {0}
IsReply _ = ⊥

-- the action of a line, or what is wrong with the line
abbrev pub IsActionOf : List ℕ → Result Action TextFault → Type 0
IsActionOf line (Ok a) = IsAction a × (line ≡ action_text a)
IsActionOf line (Err fault) = IsActionTextFault fault line

-- an entry that a seat makes
abbrev pub IsSeatEntry : Entry → Type 0
IsSeatEntry e = IsByReferee e → ⊥

-- what is wrong with a line behind the player's letter
abbrev pub IsSeatFault : TextFault → List ℕ → Type 0
IsSeatFault NotALine line = IsSeatShape (words_of line) → ⊥
IsSeatFault BadNumber line =
    IsSeatShape (words_of line)
    × ((e : Entry) → IsSeatEntry e → HasDownwardSteps e → line ≡ spaced (entry_words e) → ⊥)
IsSeatFault TooManySteps line =
    (steps : List FromTo) × (line ≡ spaced (entry_words (entry.Moved steps)))
    × AllByRecursion IsDownward steps × (4 < length steps)

-- the entry of a line, and its seat
abbrev pub IsEntryOf : List ℕ → Result (Option Player × Entry) TextFault → Type 0
IsEntryOf line (Ok found) = IsSeatOf found.0 found.1 × IsEntry found.1 × (line ≡ entry_text found.0 found.1)
IsEntryOf line (Err fault) = IsEntryTextFault fault line
