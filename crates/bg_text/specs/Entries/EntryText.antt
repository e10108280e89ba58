-- The text of an entry, and of an action.
use Rattle.std.specs.Prelude.{◌≡◌, ◌↔◌, ◌==◌, ℕ, List, [], ◌∷◌, ◌++◌, map, Option, Some, None, codes, if◌then◌else◌}
use Rattle.std.specs.Fmt.{decimal}
use Rattle.bg_board.specs.Die.{pips}
use Rattle.bg_board.specs.FromTo.{FromTo}
use Rattle.bg_board.specs.declared.dice.Die.{Die}
use Rattle.bg_board.specs.declared.players.Player.{Player}
use Rattle.bg_board.specs.PlayerName.{player_name}
use Rattle.bg_match.specs.Entry.{IsEntry, IsByReferee}
use Rattle.bg_match.specs.declared.actions.Action.{Action}
use Rattle.bg_match.specs.declared.actions.Action.TheVariants as action
use Rattle.bg_match.specs.declared.entries.Entry.{Entry}
use Rattle.bg_match.specs.declared.entries.Entry.TheVariants as entry
use Rattle.bg_match.specs.declared.levels.Level.{Level}
use Rattle.bg_match.specs.declared.levels.Level.TheVariants.{Normal, Gammon, Backgammon}
use Rattle.bg_text.specs.Entries.Words.{spaced}

abbrev pub letter : Player → List ℕ
letter player = player_name player

abbrev pub level_word : Level → List ℕ
level_word Normal = codes "normal"
level_word Gammon = codes "gammon"
level_word Backgammon = codes "backgammon"

-- where a step begins: the bar, or a point
abbrev pub source_text : ℕ → List ℕ
source_text point = if point == 25 then codes "bar" else decimal point

-- where a step ends: off, or a point
abbrev pub target_text : ℕ → List ℕ
target_text point = if point == 0 then codes "off" else decimal point

abbrev pub step_text : FromTo → List ℕ
step_text step = source_text step.from ++ codes "-" ++ target_text step.to

abbrev pub dice_words : Die → Die → List (List ℕ)
dice_words first second = decimal (pips first) ∷ decimal (pips second) ∷ []

-- what a line says of an entry, after the letter of the player who made it
abbrev pub entry_words : Entry → List (List ℕ)
entry_words (entry.Opening x o) = codes "open" ∷ dice_words x o
entry_words (entry.Rolled dice) = codes "roll" ∷ dice_words dice.first dice.second
entry_words entry.Doubled = codes "double" ∷ []
entry_words entry.Taken = codes "take" ∷ []
entry_words entry.Dropped = codes "drop" ∷ []
entry_words (entry.Moved steps) = codes "move" ∷ map step_text steps
entry_words (entry.Resigned level) = codes "resign" ∷ level_word level ∷ []
entry_words entry.Accepted = codes "accept" ∷ []
entry_words entry.Rejected = codes "reject" ∷ []
entry_words entry.Passed = codes "pass" ∷ []

-- the referee has no letter
abbrev pub seat_words : Option Player → List (List ℕ)
seat_words None = []
seat_words (Some player) = letter player ∷ []

-- the line of an entry that this seat made, or the referee
abbrev pub entry_text : Option Player → Entry → List ℕ
entry_text seat e = spaced (seat_words seat ++ entry_words e)

-- a seat makes each entry, but for the referee's own
abbrev pub IsSeatOf : Option Player → Entry → Type 0
IsSeatOf seat e = (seat ≡ None) ↔ IsByReferee e

-- one line is the line of one entry, and of one seat
abbrev pub EntryTextsDiffer : Type 0
EntryTextsDiffer =
    (seat other : Option Player) (a b : Entry) → IsEntry a → IsEntry b → entry_text seat a ≡ entry_text other b
    → (seat ≡ other) × (a ≡ b)

abbrev pub action_words : Action → List (List ℕ)
action_words action.Roll = codes "roll" ∷ []
action_words action.Double = codes "double" ∷ []
action_words action.Take = codes "take" ∷ []
action_words action.Drop = codes "drop" ∷ []
action_words (action.Move steps) = codes "move" ∷ map step_text steps
action_words (action.Resign level) = codes "resign" ∷ level_word level ∷ []
action_words action.Accept = codes "accept" ∷ []
action_words action.Reject = codes "reject" ∷ []

-- an action is written as its entry without the player, and a roll without dice
abbrev pub action_text : Action → List ℕ
action_text a = spaced (action_words a)
