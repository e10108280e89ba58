-- How far a player still has to go.
use Rattle.std.specs.Prelude.{ℕ, ◌+◌, ◌*◌, List, [], ◌∷◌}
use Rattle.bg_board.specs.Position.{Position, checkers}
use Rattle.bg_board.specs.declared.players.Player.{Player}

-- the sum of point times checkers, over the points from this one on, of which these are the counts
abbrev pub pips_from : ℕ → List ℕ → ℕ
pips_from point [] = 0
pips_from point (count ∷ counts) = point * count + pips_from (point + 1) counts

-- the sum of point times checkers: off counts nothing, and the bar 25
abbrev pub pip_count : Position → Player → ℕ
pip_count b player = pips_from 0 (checkers b player)

-- fifteen checkers on the bar
abbrev pub most_pips : ℕ
most_pips = 375
