-- Where a match stands.
use Rattle.std.specs.Prelude.{◌≡◌, ◌↔◌, ℕ, ◌+◌, ◌<◌, ◌≤◌, Bool, max, Option, Some, None, nat_lt, ◌==◌, ◌&&◌}
use Rattle.std.specs.Prelude.{if◌then◌else◌}
use Rattle.std.specs.Int.{IsPowerOfTwo}
use Rattle.bg_board.specs.Position.{Position, start_position}
use Rattle.bg_board.specs.declared.players.Player.{Player}
use Rattle.bg_board.specs.declared.players.Player.TheVariants.{X, O}
use Rattle.bg_match.specs.Limits.{shortest_match, longest_match, greatest_cube, greatest_score}
use Rattle.bg_match.specs.Terms.{Terms, match_length}
use Rattle.bg_match.specs.declared.phases.Cube.{Cube}
use Rattle.bg_match.specs.declared.phases.Phase.{Phase}
use Rattle.bg_match.specs.declared.phases.Phase.TheVariants.{Opening, Doubled, Over}

-- what contracts see of a `Standing`: `crawford` marks the game that is played without the cube,
-- `game` is its number
pub record State : Type 0 where
  pub terms : Terms
  pub board : Position
  pub phase : Phase
  pub cube : Cube
  pub x_score : ℕ
  pub o_score : ℕ
  pub crawford : Bool
  pub game : ℕ

-- the state of these parts, the score of X first
abbrev pub state_of : Terms → Position → Phase → Cube → ℕ × ℕ → Bool → ℕ → State
state_of terms board phase cube score crawford game = record {
  terms = terms;
  board = board;
  phase = phase;
  cube = cube;
  x_score = score.0;
  o_score = score.1;
  crawford = crawford;
  game = game;
}

abbrev pub score_of : State → Player → ℕ
score_of s X = s.x_score
score_of s O = s.o_score

-- both scores are below the points that the match is played to, except that the winner's has
-- reached it
abbrev pub AreScoresOf : Phase → ℕ → ℕ → ℕ → Type 0
AreScoresOf (Over X) points x o = (points ≤ x) × (x ≤ greatest_score) × (o < points)
AreScoresOf (Over O) points x o = (points ≤ o) × (o ≤ greatest_score) × (x < points)
AreScoresOf _ points x o = (x < points) × (o < points)

-- the match goes on
abbrev pub IsRunning : Phase → Type 0
IsRunning (Over p) = ⊥
IsRunning _ = Unit {0}

-- the cube is not yet at its greatest while a double is answered
abbrev pub IsCubeOf : Phase → ℕ → Type 0
IsCubeOf (Doubled q) value = value < greatest_cube
IsCubeOf _ value = value ≤ greatest_cube

-- what every `Standing` keeps
pub record IsState (s : State) : Type 0 where
  pub shortest : shortest_match ≤ match_length s.terms
  pub longest : match_length s.terms ≤ longest_match
  pub cube_value : IsPowerOfTwo s.cube.value
  pub cube_limit : IsCubeOf s.phase s.cube.value
  pub middle : (s.cube.owner ≡ None) ↔ (s.cube.value ≡ 1)
  pub scores : AreScoresOf s.phase (match_length s.terms) s.x_score s.o_score
  pub first_game : 1 ≤ s.game
  pub games : s.game ≤ s.x_score + s.o_score + 1

-- whether a game is played without the cube: the greater score before it is one point short of the
-- match, and it is the first game or the greater score before the game before it was less
abbrev pub is_crawford : ℕ → Option ℕ → ℕ → Bool
is_crawford points None greater = greater + 1 == points
is_crawford points (Some before) greater = greater + 1 == points && nat_lt before greater

-- the cube in the middle: so a game starts
abbrev pub middle_cube : Cube
middle_cube = record { value = 1; owner = None }

-- the start of a match of these terms
abbrev pub start_of : Terms → State
start_of terms = record {
  terms = terms;
  board = start_position;
  phase = Opening;
  cube = middle_cube;
  x_score = 0;
  o_score = 0;
  crawford = is_crawford (match_length terms) None 0;
  game = 1;
}

-- a player's points are added to his score
abbrev pub scored : State → Player → ℕ → State
scored s X n = record s { x_score = s.x_score + n }
scored s O n = record s { o_score = s.o_score + n }

abbrev pub greater_score : State → ℕ
greater_score s = max s.x_score s.o_score

-- the next game, after one before which the greater score was this
abbrev pub next_game : State → ℕ → State
next_game s before = record s {
  board = start_position;
  phase = Opening;
  cube = middle_cube;
  crawford = is_crawford (match_length s.terms) (Some before) (greater_score s);
  game = s.game + 1;
}

-- the match is over, or the next game opens
abbrev pub after_win : State → Player → ℕ → State
after_win s winner n =
    let t = scored s winner n in
    if nat_lt (score_of t winner) (match_length s.terms) then next_game t (greater_score s)
    else record t { phase = Over winner }
