-- The board with its checkers one above another, and as a list of points: for screens that are
-- wide, or narrow.
use Rattle.std.specs.Prelude.{ℕ, List, [], ◌∷◌, ◌++◌, nat_lt, codes, if◌then◌else◌}
use Rattle.std.specs.List.{flat_map}
use Rattle.std.specs.Fmt.{decimal}
use Rattle.bg_board.specs.Position.{Position}
use Rattle.bg_board.specs.declared.players.Player.{Player}
use Rattle.bg_text.specs.Boards.BoardText.{line_text}
use Rattle.bg_table.specs.BoardLines.{board_line, held, held_words}
use Rattle.bg_table.specs.SeenBoards.{aside_words, lower_left, lower_right, seen_aside, seen_board}
use Rattle.bg_table.specs.SeenBoards.{upper_left, upper_right}
use Rattle.bg_table.specs.declared.board_lines.Line.TheVariants.{Numbers, Row}
use Rattle.bg_table.specs.declared.drawings.Drawing.{Drawing}
use Rattle.bg_table.specs.declared.drawings.Drawing.TheVariants as drawing

-- the rows of a stack, from the edge of the board on
abbrev pub from_edge : List ℕ
from_edge = 1 ∷ 2 ∷ 3 ∷ 4 ∷ 5 ∷ []

abbrev pub to_edge : List ℕ
to_edge = 5 ∷ 4 ∷ 3 ∷ 2 ∷ 1 ∷ []

-- rows of some points left of the bar, and of others right of it
abbrev pub drawn_lines : Position → Player → List ℕ → List ℕ → List ℕ → List ℕ
drawn_lines b reader rows left right = flat_map (λ row. line_text (board_line (Row row) b reader left right)) rows

-- the board of a reader with its checkers one above another
unfoldable pub drawn_board : Position → Player → List ℕ
drawn_board b reader =
    line_text (board_line Numbers b reader upper_left upper_right)
    ++ drawn_lines b reader from_edge upper_left upper_right
    ++ codes "                          |\n"
    ++ drawn_lines b reader to_edge lower_left lower_right
    ++ line_text (board_line Numbers b reader lower_left lower_right)
    ++ line_text (seen_aside b reader)

-- a point of the reader with what stands there, as in "24 X2", in a line of its own; nothing where
-- nothing stands
abbrev pub listed_point : Position → Player → ℕ → List ℕ
listed_point b reader point =
    if nat_lt 0 (held b reader point) then decimal point ++ codes " " ++ line_text (held_words b reader point) else []

abbrev pub points_down : List ℕ
points_down =
    24 ∷ 23 ∷ 22 ∷ 21 ∷ 20 ∷ 19 ∷ 18 ∷ 17 ∷ 16 ∷ 15 ∷ 14 ∷ 13 ∷ 12 ∷ 11 ∷ 10 ∷ 9 ∷ 8 ∷ 7 ∷ 6 ∷ 5 ∷ 4 ∷ 3 ∷ 2 ∷ 1 ∷ []

abbrev pub listed_points : Position → Player → List ℕ → List ℕ
listed_points b reader points = flat_map (λ point. listed_point b reader point) points

unfoldable pub all_points_listed : Position → Player → List ℕ
all_points_listed b reader = listed_points b reader points_down

-- the board of a reader as a list of the points where checkers stand, the bar, and those off
unfoldable pub listed_board : Position → Player → List ℕ
listed_board b reader =
    all_points_listed b reader
    ++ line_text (codes "bar: " ++ aside_words b reader 25)
    ++ line_text (codes "off: " ++ aside_words b reader 0)

-- how many columns a screen has at least, for each way to draw the board
abbrev pub columns_for_rows : ℕ
columns_for_rows = 50

abbrev pub columns_for_stacks : ℕ
columns_for_stacks = 80

-- how the board is drawn on a screen of so many columns
abbrev pub drawing_for : ℕ → Drawing
drawing_for columns =
    if nat_lt columns columns_for_rows then drawing.Points
    else if nat_lt columns columns_for_stacks then drawing.Rows
    else drawing.Stacks

-- the board of a reader, drawn so
abbrev pub board_drawn : Drawing → Position → Player → List ℕ
board_drawn drawing.Stacks b reader = drawn_board b reader
board_drawn drawing.Rows b reader = seen_board b reader
board_drawn drawing.Points b reader = listed_board b reader
