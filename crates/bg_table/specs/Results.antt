-- What a game came to.
use Rattle.std.specs.Prelude.{ℕ, ◌-◌, ◌*◌, ◌==◌, nat_lt, List, [], ◌++◌, codes, if◌then◌else◌}
use Rattle.std.specs.Fmt.{decimal}
use Rattle.bg_board.specs.Position.{opponent}
use Rattle.bg_board.specs.declared.players.Player.{Player}
use Rattle.bg_board.specs.declared.players.Player.TheVariants.{X, O}
use Rattle.bg_match.specs.State.{State, score_of}
use Rattle.bg_match.specs.declared.phases.Phase.{Phase}
use Rattle.bg_match.specs.declared.phases.Phase.TheVariants.{Over}
use Rattle.bg_text.specs.Boards.BoardText.{line_text}
use Rattle.bg_text.specs.Entries.EntryText.{letter}

-- how much greater the score of a player is at t than at s
abbrev pub gained : State → State → Player → ℕ
gained s t player = score_of t player - score_of s player

unfoldable pub winner_words : Player → Player → List ℕ
winner_words X X = codes "you win "
winner_words O O = codes "you win "
winner_words X O = letter X ++ codes " wins "
winner_words O X = letter O ++ codes " wins "

unfoldable pub points_words : ℕ → List ℕ
points_words points = if points == 1 then codes "1 point: " else decimal points ++ codes " points: "

-- the score, that of the winner first, with a text between the numbers
unfoldable pub scores_words : State → Player → List ℕ → List ℕ
scores_words t winner between = decimal (score_of t winner) ++ between ++ decimal (score_of t (opponent winner))

-- as in "2 points: 3 to 1"
unfoldable pub game_words : State → Player → ℕ → List ℕ
game_words t winner points = points_words points ++ scores_words t winner (codes " to ")

-- as in "a gammon, 4 points, and "
unfoldable pub named_words : List ℕ → ℕ → List ℕ
named_words level points = level ++ decimal points ++ codes " points, and "

-- a gammon counts twice the cube, and a backgammon three times
abbrev pub level_words : ℕ → ℕ → List ℕ
level_words cube points =
    if points == 2 * cube then named_words (codes "a gammon, ") points
    else if points == 3 * cube then named_words (codes "a backgammon, ") points
    else []

-- the level of the game that ended the match, where it was played before too
abbrev pub last_level_words : State → State → ℕ → List ℕ
last_level_words s t points = if s.game == t.game then level_words t.cube.value points else []

-- as in "the match, 5-3", or "a gammon, 2 points, and the match, 6-3"
unfoldable pub match_words : State → State → Player → ℕ → List ℕ
match_words s t winner points =
    last_level_words s t points ++ codes "the match, " ++ scores_words t winner (codes "-")

abbrev pub worth_words : Phase → State → State → Player → ℕ → List ℕ
worth_words (Over p) s t winner points = match_words s t winner points
worth_words _ s t winner points = game_words t winner points

-- as in "you win 2 points: 3 to 1", or "X wins the match, 5-3"
unfoldable pub won_words : State → State → Player → ℕ → Player → List ℕ
won_words s t winner points reader =
    line_text (winner_words winner reader ++ worth_words t.phase s t winner points)

-- what a game came to, where the match stood at s and stands at t: nothing where no score is
-- greater
unfoldable pub result_words : State → State → Player → List ℕ
result_words s t reader =
    if nat_lt 0 (gained s t X) then won_words s t X (gained s t X) reader
    else if nat_lt 0 (gained s t O) then won_words s t O (gained s t O) reader
    else []
