-- The words of a picture: what it shows in words, for who can't see it.
use Rattle.std.specs.Prelude.{ℕ, ◌-◌, Bool, true, false, List, [], ◌∷◌, ◌++◌, nat_lt, Option, Some, None, codes}
use Rattle.std.specs.Prelude.{if◌then◌else◌}
use Rattle.std.specs.List.{flat_map}
use Rattle.std.specs.Fmt.{decimal}
use Rattle.bg_board.specs.Position.{Position, count}
use Rattle.bg_board.specs.declared.players.Player.{Player}
use Rattle.bg_board.specs.declared.players.Player.TheVariants.{X, O}
use Rattle.bg_match.specs.State.{State}
use Rattle.bg_match.specs.declared.phases.Cube.{Cube}
use Rattle.bg_text.specs.Entries.EntryText.{letter}
use Rattle.bg_text.specs.Boards.BoardText.{phase_line}
use Rattle.bg_text.specs.Boards.TermsText.{terms_text}

-- a Crawford game is named
abbrev pub crawford_words : Bool → List ℕ
crawford_words true = codes ", Crawford"
crawford_words false = []

-- what is to happen next, as in the board text
unfoldable pub phase_words : State → List ℕ
phase_words s = phase_line s

-- the length of the match and the game, as in "length 7, game 3, Crawford"
unfoldable pub game_words : State → List ℕ
game_words s = terms_text s.terms ++ codes ", game " ++ decimal s.game ++ crawford_words s.crawford

unfoldable pub score_words : State → List ℕ
score_words s = codes "; X " ++ decimal s.x_score ++ codes ", O " ++ decimal s.o_score

abbrev pub owner_words : Option Player → List ℕ
owner_words None = codes " in the middle"
owner_words (Some player) = codes " of " ++ letter player

unfoldable pub cube_words : Cube → List ℕ
cube_words cube = codes "; cube " ++ decimal cube.value ++ owner_words cube.owner

-- the game, the score and the cube
unfoldable pub terms_words : State → List ℕ
terms_words s = game_words s ++ score_words s ++ cube_words s.cube

-- a player's point in the numbers of the other player, or in his own
abbrev pub number_for : Player → Player → ℕ → ℕ
number_for X X point = point
number_for O O point = point
number_for X O point = 25 - point
number_for O X point = 25 - point

-- how many checkers a player has on one of his points, where he has some, with the number that a
-- reader counts it by
unfoldable pub point_words : Position → Player → Player → ℕ → List ℕ
point_words b player reader point =
    if nat_lt 0 (count b player point)
    then codes ", " ++ decimal (count b player point) ++ codes " on " ++ decimal (number_for player reader point)
    else []

unfoldable pub points_words : Position → Player → Player → List ℕ → List ℕ
points_words b player reader points = flat_map (point_words b player reader) points

-- the points of the board from a player's greatest on
abbrev pub points_down : List ℕ
points_down =
    24 ∷ 23 ∷ 22 ∷ 21 ∷ 20 ∷ 19 ∷ 18 ∷ 17 ∷ 16 ∷ 15 ∷ 14 ∷ 13
    ∷ 12 ∷ 11 ∷ 10 ∷ 9 ∷ 8 ∷ 7 ∷ 6 ∷ 5 ∷ 4 ∷ 3 ∷ 2 ∷ 1 ∷ []

unfoldable pub bar_words : Position → Player → List ℕ
bar_words b player = codes ": " ++ decimal (count b player 25) ++ codes " on the bar, "

unfoldable pub off_words : Position → Player → List ℕ
off_words b player = decimal (count b player 0) ++ codes " off"

-- all checkers of a player, as in "; X: 0 on the bar, 0 off, 2 on 24, 5 on 13, 3 on 8, 5 on 6"
unfoldable pub checkers_words : Position → Player → Player → List ℕ
checkers_words b player reader =
    codes "; " ++ letter player ++ bar_words b player ++ off_words b player ++ points_words b player reader points_down

unfoldable pub reader_words : Player → List ℕ
reader_words reader = codes "; points as " ++ letter reader ++ codes " counts"

-- the description of a picture whose points have the numbers of a player
unfoldable pub description : State → Player → List ℕ
description s reader =
    terms_words s ++ checkers_words s.board X reader ++ checkers_words s.board O reader ++ reader_words reader
