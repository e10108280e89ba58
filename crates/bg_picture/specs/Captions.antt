-- What is said of an item below its picture, and of the end of a game.
use Rattle.std.specs.Prelude.{ℕ, ◌==◌, List, [], ◌++◌, codes, if◌then◌else◌}
use Rattle.std.specs.Fmt.{decimal}
use Rattle.bg_board.specs.declared.players.Player.{Player}
use Rattle.bg_match.specs.State.{State}
use Rattle.bg_match.specs.declared.levels.Level.{Level}
use Rattle.bg_match.specs.declared.levels.Level.TheVariants.{Normal, Gammon, Backgammon}
use Rattle.bg_match.specs.declared.phases.Phase.{Phase}
use Rattle.bg_match.specs.declared.phases.Phase.TheVariants.{Over}
use Rattle.bg_text.specs.Entries.EntryText.{letter}
use Rattle.bg_picture.specs.Descriptions.{phase_words, score_words}
use Rattle.bg_picture.specs.declared.captions.Caption.{Caption}
use Rattle.bg_picture.specs.declared.captions.Caption.TheVariants.{Next, Won}
use Rattle.bg_picture.specs.declared.wins.Win.{Win}
use Rattle.bg_picture.specs.declared.wins.Way.{Way}
use Rattle.bg_picture.specs.declared.wins.Way.TheVariants.{BearingOff, Drop, Resignation}

abbrev pub level_words : Level → List ℕ
level_words Normal = codes "a single game"
level_words Gammon = codes "a gammon"
level_words Backgammon = codes "a backgammon"

unfoldable pub way_words : Way → List ℕ
way_words (BearingOff level) = level_words level
way_words Drop = codes "by a drop of the double"
way_words (Resignation level) = level_words level ++ codes " by resignation"

-- as in "X wins a gammon by resignation"
unfoldable pub win_words : Win → List ℕ
win_words win = letter win.winner ++ codes " wins " ++ way_words win.way

-- what is to happen next, or how the game was won
unfoldable pub caption_words : State → Caption → List ℕ
caption_words s Next = phase_words s
caption_words s (Won win) = win_words win

unfoldable pub worth_words : ℕ → List ℕ
worth_words points = if points == 1 then codes ", 1 point" else codes ", " ++ decimal points ++ codes " points"

unfoldable pub match_words : Player → List ℕ
match_words player = codes "; " ++ letter player ++ codes " wins the match"

-- the winner of the match, where it is over
unfoldable pub over_words : Phase → List ℕ
over_words (Over p) = match_words p
over_words _ = []

-- the result of a game, behind which the match stands at s: as in
-- "X wins a gammon by resignation, 4 points; X 7, O 3; X wins the match"
unfoldable pub result_words : Win → State → List ℕ
result_words win s = win_words win ++ worth_words win.points ++ score_words s ++ over_words s.phase
