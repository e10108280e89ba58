-- The picture of a standing.
use Rattle.std.specs.Prelude.{ℕ, ◌-◌, Bool, true, false, List, [], ◌∷◌, ◌++◌, length, replicate, nat_lt, nat_le, ◌&&◌}
use Rattle.std.specs.Prelude.{Option, Some, None, codes, if◌then◌else◌}
use Rattle.std.specs.List.{flat_map}
use Rattle.std.specs.Fmt.{decimal}
use Rattle.bg_board.specs.Die.{pips}
use Rattle.bg_board.specs.Position.{Position, count}
use Rattle.bg_board.specs.declared.players.Player.{Player}
use Rattle.bg_board.specs.declared.players.Player.TheVariants.{X, O}
use Rattle.bg_match.specs.Actor.{passes}
use Rattle.bg_match.specs.State.{State}
use Rattle.bg_match.specs.declared.phases.Cube.{Cube}
use Rattle.bg_match.specs.declared.phases.Phase.{Phase}
use Rattle.bg_match.specs.declared.phases.Phase.TheVariants as phase
use Rattle.bg_text.specs.Entries.EntryText.{letter, level_word}
use Rattle.bg_text.specs.Boards.TermsText.{terms_text}

-- a line ends with a line feed
abbrev pub line_text : List ℕ → List ℕ
line_text line = line ++ 10 ∷ []

abbrev pub lines_text : List (List ℕ) → List ℕ
lines_text lines = flat_map line_text lines

abbrev pub owner_word : Option Player → List ℕ
owner_word None = codes "middle"
owner_word (Some player) = letter player

abbrev pub crawford_mark : Bool → List ℕ
crawford_mark true = codes " crawford"
crawford_mark false = []

abbrev pub game_part : State → List ℕ
game_part s = terms_text s.terms ++ codes " game " ++ decimal s.game

abbrev pub score_part : State → List ℕ
score_part s = codes " score " ++ decimal s.x_score ++ codes "-" ++ decimal s.o_score

abbrev pub cube_part : Cube → List ℕ
cube_part cube = codes " cube " ++ decimal cube.value ++ codes " " ++ owner_word cube.owner

abbrev pub header_line : State → List ℕ
header_line s = game_part s ++ score_part s ++ cube_part s.cube ++ crawford_mark s.crawford

-- at the right of four places
abbrev pub in_four : List ℕ → List ℕ
in_four text = replicate (4 - length text) 32 ++ text

-- what stands on a point, in X's numbering: the player's letter and how many checkers he has there,
-- or a dot
abbrev pub cell : Position → ℕ → List ℕ
cell b point =
    if nat_lt 0 (count b X point) then codes "X" ++ decimal (count b X point)
    else if nat_lt 0 (count b O (25 - point)) then codes "O" ++ decimal (count b O (25 - point))
    else codes "."

-- a point where checkers stand between the bar and off
abbrev pub is_point : ℕ → Bool
is_point point = nat_le 1 point && nat_le point 24

abbrev pub upper_points : List ℕ
upper_points = 13 ∷ 14 ∷ 15 ∷ 16 ∷ 17 ∷ 18 ∷ 19 ∷ 20 ∷ 21 ∷ 22 ∷ 23 ∷ 24 ∷ []

abbrev pub lower_points : List ℕ
lower_points = 12 ∷ 11 ∷ 10 ∷ 9 ∷ 8 ∷ 7 ∷ 6 ∷ 5 ∷ 4 ∷ 3 ∷ 2 ∷ 1 ∷ []

abbrev pub numbers_line : List ℕ → List ℕ
numbers_line points = flat_map (λ point. in_four (decimal point)) points

abbrev pub cells_line : Position → List ℕ → List ℕ
cells_line b points = flat_map (λ point. in_four (cell b point)) points

-- how many checkers each player has on one of his points
abbrev pub counts_part : Position → ℕ → List ℕ
counts_part b point = codes " X " ++ decimal (count b X point) ++ codes " O " ++ decimal (count b O point)

-- the checkers on the bar, and those off
abbrev pub aside_line : Position → List ℕ
aside_line b = codes "bar" ++ counts_part b 25 ++ codes " off" ++ counts_part b 0

-- what is to become of the dice of a player, whose turn is to be passed or not
abbrev pub turn_words : Bool → List ℕ
turn_words true = codes " to pass "
turn_words false = codes " to move "

-- what is to happen next in a phase, where a turn is to be passed or not
abbrev pub phase_text : Phase → Bool → List ℕ
phase_text phase.Opening passing = codes "opening"
phase_text (phase.ToAct p) passing = letter p ++ codes " to roll"
phase_text (phase.Doubled p) passing = letter p ++ codes " to answer the double"
phase_text (phase.ToMove p dice) passing =
    letter p ++ turn_words passing ++ decimal (pips dice.first) ++ codes " " ++ decimal (pips dice.second)
phase_text (phase.Resigned p level back) passing = letter p ++ codes " resigns " ++ level_word level
phase_text (phase.Over p) passing = letter p ++ codes " wins the match"

abbrev pub phase_line : State → List ℕ
phase_line s = phase_text s.phase (passes s)

abbrev pub board_lines : State → List (List ℕ)
board_lines s =
    header_line s
    ∷ numbers_line upper_points
    ∷ cells_line s.board upper_points
    ∷ cells_line s.board lower_points
    ∷ numbers_line lower_points
    ∷ aside_line s.board
    ∷ phase_line s
    ∷ []

unfoldable pub board_text : State → List ℕ
board_text s = lines_text (board_lines s)
