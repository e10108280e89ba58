-- Whose seat a digest is that of.
use Rattle.std.specs.Prelude.{ℕ, Bool, true, false, ◌==◌, ◌&&◌, List, [], ◌∷◌, Option, Some, None, if◌then◌else◌}
use Rattle.bg_board.specs.declared.players.Player.{Player}
use Rattle.bg_board.specs.declared.players.Player.TheVariants.{X, O}
use Rattle.bg_requests.specs.declared.seats.Seats.{Seats}

-- the lists have the same bytes
abbrev pub same_bytes : List ℕ → List ℕ → Bool
same_bytes [] [] = true
same_bytes (x ∷ xs) (y ∷ ys) = (x == y) && same_bytes xs ys
same_bytes _ _ = false

-- the player whose seat has this digest: X, where both have
abbrev pub player_with : Seats → List ℕ → Option Player
player_with seats digest =
    if same_bytes seats.x digest then Some X else if same_bytes seats.o digest then Some O else None
