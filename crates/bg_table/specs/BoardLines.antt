-- The lines of a board as a player sees it: the reader, in whose numbers all points are.
use Rattle.std.specs.Prelude.{ℕ, ◌-◌, ◌==◌, ◌&&◌, List, ◌++◌, nat_lt, codes, if◌then◌else◌}
use Rattle.std.specs.List.{flat_map}
use Rattle.std.specs.Fmt.{decimal}
use Rattle.bg_board.specs.Position.{Position, count, opponent}
use Rattle.bg_board.specs.declared.players.Player.{Player}
use Rattle.bg_text.specs.Boards.BoardText.{in_four}
use Rattle.bg_text.specs.Entries.EntryText.{letter}
use Rattle.bg_table.specs.declared.board_lines.Line.{Line}
use Rattle.bg_table.specs.declared.board_lines.Line.TheVariants.{Numbers, Counts, Row}

-- who holds a point of the reader: the other player where the reader has no checker there
abbrev pub holder : Position → Player → ℕ → Player
holder b reader point = if nat_lt 0 (count b reader point) then reader else opponent reader

-- how many checkers stand there
abbrev pub held : Position → Player → ℕ → ℕ
held b reader point =
    if nat_lt 0 (count b reader point) then count b reader point else count b (opponent reader) (25 - point)

-- the letter of who holds it and how many checkers he has there, as in "X2"
abbrev pub held_words : Position → Player → ℕ → List ℕ
held_words b reader point = letter (holder b reader point) ++ decimal (held b reader point)

-- the same, or a dot where nothing stands
abbrev pub seen_cell : Position → Player → ℕ → List ℕ
seen_cell b reader point = if nat_lt 0 (held b reader point) then held_words b reader point else codes "."

-- how many rows a stack has
abbrev pub rows_of_stack : ℕ
rows_of_stack = 5

-- what a stack of so many checkers shows in a row: a checker, in the last row their number where
-- there are more, and beyond them nothing, but for a dot where there is none
abbrev pub stacked : List ℕ → ℕ → ℕ → List ℕ
stacked mark checkers row =
    if nat_lt checkers row then (if row == 1 then codes "." else codes "")
    else if row == rows_of_stack && nat_lt row checkers then decimal checkers
    else mark

-- what a line shows of a point
abbrev pub shown : Line → Position → Player → ℕ → List ℕ
shown Numbers b reader point = decimal point
shown Counts b reader point = seen_cell b reader point
shown (Row row) b reader point = stacked (letter (holder b reader point)) (held b reader point) row

abbrev pub cells : Line → Position → Player → List ℕ → List ℕ
cells line b reader points = flat_map (λ point. in_four (shown line b reader point)) points

-- what it shows of some points left of the bar, and of others right of it
unfoldable pub board_line : Line → Position → Player → List ℕ → List ℕ → List ℕ
board_line line b reader left right = cells line b reader left ++ codes "  |" ++ cells line b reader right
