-- The match, the score, the pip counts and the cube, in words.
use Rattle.std.specs.Prelude.{ℕ, ◌*◌, ◌==◌, Bool, true, false, Option, Some, None, List, [], ◌++◌, codes, if◌then◌else◌}
use Rattle.std.specs.Fmt.{decimal}
use Rattle.bg_board.specs.Position.{Position, opponent}
use Rattle.bg_board.specs.declared.players.Player.{Player}
use Rattle.bg_match.specs.State.{State, score_of}
use Rattle.bg_match.specs.Terms.{match_length}
use Rattle.bg_match.specs.declared.phases.Cube.{Cube}
use Rattle.bg_match.specs.declared.phases.Phase.{Phase}
use Rattle.bg_match.specs.declared.phases.Phase.TheVariants.{Doubled, Over}
use Rattle.bg_text.specs.Boards.TermsText.{terms_text}
use Rattle.bg_table.specs.Pips.{pip_count}
use Rattle.bg_table.specs.SeenPlayers.{name_text}

-- the mark of a Crawford game in a match to so many points: the only game of a match to one point
-- has none
abbrev pub crawford_words : ℕ → Bool → List ℕ
crawford_words points true = if points == 1 then [] else codes ", Crawford game"
crawford_words points false = []

-- as in "length 7, game 3, Crawford game"
unfoldable pub game_line : State → List ℕ
game_line s =
    terms_text s.terms ++ codes ", game " ++ decimal s.game ++ crawford_words (match_length s.terms) s.crawford

-- the points that a match is played to, while it goes on
unfoldable pub of_words : Phase → ℕ → List ℕ
of_words (Over p) points = []
of_words _ points = codes " of " ++ decimal points

-- as in "X (you) 3 of 7", or "X (you) 8" where the match is over
unfoldable pub score_words : State → Player → Player → List ℕ
score_words s player reader =
    name_text player reader ++ codes " " ++ decimal (score_of s player) ++ of_words s.phase (match_length s.terms)

unfoldable pub score_line : State → Player → List ℕ
score_line s reader =
    codes "score: " ++ score_words s reader reader ++ codes ", " ++ score_words s (opponent reader) reader

unfoldable pub pips_words : Position → Player → Player → List ℕ
pips_words b player reader = name_text player reader ++ codes " " ++ decimal (pip_count b player)

-- as in "pips: X (you) 167, O 167"
unfoldable pub pips_line : Position → Player → List ℕ
pips_line b reader = codes "pips: " ++ pips_words b reader reader ++ codes ", " ++ pips_words b (opponent reader) reader

unfoldable pub owner_words : Option Player → Player → List ℕ
owner_words None reader = codes " in the middle"
owner_words (Some player) reader = codes " of " ++ name_text player reader

unfoldable pub cube_words : Cube → Player → List ℕ
cube_words cube reader = codes "cube: " ++ decimal cube.value ++ owner_words cube.owner reader

unfoldable pub doubled_words : ℕ → List ℕ
doubled_words value = codes ", doubled to " ++ decimal value

-- what a double offers, while it is answered
unfoldable pub offer_words : Phase → ℕ → List ℕ
offer_words (Doubled player) value = doubled_words (2 * value)
offer_words _ value = []

-- as in "cube: 2 of X (you)", or "cube: 1 in the middle, doubled to 2"
unfoldable pub cube_line : State → Player → List ℕ
cube_line s reader = cube_words s.cube reader ++ offer_words s.phase s.cube.value
