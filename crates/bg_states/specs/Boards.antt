-- Where the checkers stand.
use Rattle.std.specs.Prelude.{ℕ, List, ◌++◌, codes}
use Rattle.bg_board.specs.Position.{Position, checkers}
use Rattle.bg_board.specs.declared.players.Player.TheVariants.{X, O}
use Rattle.bg_states.specs.Lists.{numbers_text}

-- how many checkers X and O have on each point of their own numbering, from 0 to 25
unfoldable pub board_text : Position → List ℕ
board_text b =
    codes ",\"x\":" ++ numbers_text (checkers b X) ++ codes ",\"o\":" ++ numbers_text (checkers b O)
