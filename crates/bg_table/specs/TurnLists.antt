-- The list of the turns that a player may play.
use Rattle.std.specs.Prelude.{◌≡◌, ◌==◌, ◌&&◌, ◌||◌, ℕ, ◌+◌, ◌-◌, ◌/◌, ◌%◌, max, nat_lt, Bool, true, false, List, []}
use Rattle.std.specs.Prelude.{◌∷◌, ◌++◌, length, replicate, codes, if◌then◌else◌}
use Rattle.std.specs.Fmt.{decimal}
use Rattle.bg_board.specs.FromTo.{FromTo}
use Rattle.bg_board.specs.Position.{Position, count, opponent}
use Rattle.bg_board.specs.Step.{after_step}
use Rattle.bg_board.specs.declared.players.Player.{Player}
use Rattle.bg_turns.specs.declared.throws.Dice.{Dice}
use Rattle.bg_table.specs.DistinctTurns.{AreDistinctTurns}
use Rattle.bg_table.specs.StepTexts.{spaced_step}

-- a step hits where a single checker of the other player stands on the point where it ends
abbrev pub hit_mark : Position → Player → FromTo → List ℕ
hit_mark b player step =
    if nat_lt 0 step.to && count b (opponent player) (25 - step.to) == 1 then codes "*" else []

-- each step behind a blank, and a mark behind those that hit: as in " bar-20* 13-11"
unfoldable pub marked_steps : Position → Player → List FromTo → List ℕ
marked_steps b player [] = []
marked_steps b player (step ∷ rest) =
    spaced_step step ++ hit_mark b player step ++ marked_steps (after_step b player step) player rest

-- how wide the cells are: a blank wider than the longest text of a turn
abbrev pub cell_width : Position → Player → List (List FromTo) → ℕ
cell_width b player [] = 1
cell_width b player (steps ∷ turns) = max (length (marked_steps b player steps) + 1) (cell_width b player turns)

-- how many cells of a width fit into a line of so many letters, the last of them without the blank
-- at its end
abbrev pub in_row : ℕ → ℕ → ℕ
in_row columns width = max ((columns + 1) / width) 1

-- whether a line ends behind the cell of this number, from 1, where a line has so many, and so many
-- stand behind it
abbrev pub ends_line : ℕ → ℕ → ℕ → Bool
ends_line number row behind = number % row == 0 || behind == 0

-- what stands behind a cell: the end of a line, or so many blanks
abbrev pub gap : ℕ → Bool → List ℕ
gap spare true = codes "\n"
gap spare false = replicate spare 32

-- the texts of turns, in cells of this width and so many in a line: the first has this number, from
-- 1
abbrev pub cells_text : Position → Player → ℕ → ℕ → ℕ → List (List FromTo) → List ℕ
cells_text b player width row number [] = []
cells_text b player width row number (steps ∷ turns) =
    let cell = marked_steps b player steps in
    cell ++ gap (width - length cell) (ends_line number row (length turns))
    ++ cells_text b player width row (number + 1) turns

-- the turns in columns, below how many there are
unfoldable pub turns_text : Position → Player → ℕ → List (List FromTo) → List ℕ
turns_text b player columns turns =
    let width = cell_width b player turns in
    decimal (length turns) ++ codes " turns:\n" ++ cells_text b player width (in_row columns width) 1 turns

-- as in "the only turn: 24-18 13-11 (`m` plays it)"
unfoldable pub one_text : Position → Player → List FromTo → List ℕ
one_text b player steps = codes "the only turn:" ++ marked_steps b player steps ++ codes " (`m` plays it)\n"

-- the line of the only turn
abbrev pub only_text : Position → Player → List FromTo → List ℕ
only_text b player [] = codes "you can't move: `move` passes your turn\n"
only_text b player (step ∷ rest) = one_text b player (step ∷ rest)

abbrev pub list_text : Position → Player → ℕ → List (List FromTo) → List ℕ
list_text b player columns (steps ∷ []) = only_text b player steps
list_text b player columns turns = turns_text b player columns turns

-- the text lists the distinct turns in lines of so many letters
abbrev pub IsTurnList : Position → Player → Dice → ℕ → List ℕ → Type 0
IsTurnList b player dice columns text =
    (turns : List (List FromTo)) × AreDistinctTurns b player dice turns × (text ≡ list_text b player columns turns)
