-- What the texts of refused turns and of won games say, and that the cells of a list fit.
use Rattle.std.specs.Prelude.{◌≡◌, ◌⊎◌, ℕ, ◌+◌, ◌*◌, ◌<◌, ◌≤◌, Some, List, ◌++◌, length, codes, slice_get, All}
use Rattle.bg_board.specs.FromTo.{FromTo}
use Rattle.bg_board.specs.Position.{Position}
use Rattle.bg_board.specs.declared.players.Player.{Player}
use Rattle.bg_match.specs.State.{State, after_win}
use Rattle.bg_turns.specs.Turn.{IsTurnFault}
use Rattle.bg_turns.specs.declared.faults.TurnFault.TheVariants.{StepIllegal}
use Rattle.bg_turns.specs.declared.throws.Dice.{Dice}
use Rattle.bg_text.specs.Entries.EntryText.{step_text}
use Rattle.bg_table.specs.Results.{result_words, won_words}
use Rattle.bg_table.specs.TurnLists.{cell_width, in_row, marked_steps}
use Rattle.bg_table.specs.TurnRefusals.{IsTurnRefusal}

-- the line of a turn of which so many steps can be played begins with the step behind these
abbrev pub NamesStep : Type 0
NamesStep = (b : Position) (player : Player) (dice : Dice) (steps : List FromTo) (playable : ℕ) (line : List ℕ)
    → IsTurnFault (StepIllegal playable) b player dice steps
    → IsTurnRefusal b player dice steps (StepIllegal playable) line
    → (step : FromTo) × (rest : List ℕ) × (slice_get steps playable ≡ Some step)
    × (line ≡ step_text step ++ codes " can't be played: " ++ rest)

-- after a game that a player won with so many points, the text says that he won these
abbrev pub TellsWin : Type 0
TellsWin = (s : State) (winner reader : Player) (points : ℕ) → 1 ≤ points
    → result_words s (after_win s winner points) reader ≡ won_words s (after_win s winner points) winner points reader

-- each text of a turn is shorter than a cell of their list. The cells of a line, without the blank
-- at the end, have as many letters as the line at most, or there is one alone
abbrev pub FitsLines : Type 0
FitsLines = (b : Position) (player : Player) (turns : List (List FromTo)) (columns width : ℕ)
    → width ≡ cell_width b player turns
    → All (λ steps. length (marked_steps b player steps) < width) turns
    × ((in_row columns width ≡ 1) ⊎ (in_row columns width * width ≤ columns + 1))
