-- What `check` says of a good match.
use Rattle.std.specs.Prelude.{◌≡◌, ℕ, Bool, true, false, List, ◌++◌, length, codes}
use Rattle.std.specs.Fmt.{decimal}
use Rattle.bg_board.specs.declared.players.Player.TheVariants.{X, O}
use Rattle.bg_match.specs.Match.{Log, StandsAt}
use Rattle.bg_match.specs.State.{State}
use Rattle.bg_match.specs.declared.phases.Phase.{Phase}
use Rattle.bg_match.specs.declared.phases.Phase.TheVariants.{Over}
use Rattle.bg_text.specs.Judge.Judging.{fine_line}

-- what became of a match that stands here: who has won it, or that it goes on. A match file that is
-- cut ends within a game
abbrev pub result_words : Phase → State → Bool → List ℕ
result_words (Over X) s is_cut = codes ", X wins " ++ decimal s.x_score ++ codes "-" ++ decimal s.o_score
result_words (Over O) s is_cut = codes ", O wins " ++ decimal s.o_score ++ codes "-" ++ decimal s.x_score
result_words _ s true = codes ", cut within a game"
result_words _ s false = codes ", not over"

-- what is said of a match: how many entries it has, and what became of it
pub record IsSaidOfMatch (log : Log) (is_cut : Bool) (words : List ℕ) : Type 0 where
  pub state : State
  pub stands : StandsAt log.terms log.entries state
  pub said : words ≡ fine_line (length log.entries) ++ result_words state.phase state is_cut
