-- The board as a player sees it: the reader, in whose numbers all points are.
use Rattle.std.specs.Prelude.{ℕ, List, [], ◌∷◌, ◌++◌, codes}
use Rattle.std.specs.Fmt.{decimal}
use Rattle.bg_board.specs.Position.{Position, count, opponent}
use Rattle.bg_board.specs.declared.players.Player.{Player}
use Rattle.bg_text.specs.Boards.BoardText.{line_text}
use Rattle.bg_text.specs.Entries.EntryText.{letter}
use Rattle.bg_table.specs.BoardLines.{board_line}
use Rattle.bg_table.specs.declared.board_lines.Line.TheVariants.{Numbers, Counts}

-- the reader's points: his home board is below, at the right
abbrev pub upper_left : List ℕ
upper_left = 13 ∷ 14 ∷ 15 ∷ 16 ∷ 17 ∷ 18 ∷ []

abbrev pub upper_right : List ℕ
upper_right = 19 ∷ 20 ∷ 21 ∷ 22 ∷ 23 ∷ 24 ∷ []

abbrev pub lower_left : List ℕ
lower_left = 12 ∷ 11 ∷ 10 ∷ 9 ∷ 8 ∷ 7 ∷ []

abbrev pub lower_right : List ℕ
lower_right = 6 ∷ 5 ∷ 4 ∷ 3 ∷ 2 ∷ 1 ∷ []

unfoldable pub checkers_words : Position → Player → ℕ → List ℕ
checkers_words b player point = letter player ++ codes " " ++ decimal (count b player point)

-- how many checkers each player has on one of his points, the reader first
unfoldable pub aside_words : Position → Player → ℕ → List ℕ
aside_words b reader point = checkers_words b reader point ++ codes ", " ++ checkers_words b (opponent reader) point

-- the checkers on the bar, and those off, as in "bar: O 0, X 1; off: O 0, X 2"
unfoldable pub seen_aside : Position → Player → List ℕ
seen_aside b reader = codes "bar: " ++ aside_words b reader 25 ++ codes "; off: " ++ aside_words b reader 0

-- the board of a reader, in five lines
unfoldable pub seen_board : Position → Player → List ℕ
seen_board b reader =
    line_text (board_line Numbers b reader upper_left upper_right)
    ++ line_text (board_line Counts b reader upper_left upper_right)
    ++ line_text (board_line Counts b reader lower_left lower_right)
    ++ line_text (board_line Numbers b reader lower_left lower_right)
    ++ line_text (seen_aside b reader)
