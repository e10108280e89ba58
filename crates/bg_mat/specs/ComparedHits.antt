-- How the hits that are marked are compared with those of a turn.
use Rattle.std.specs.Prelude.{ℕ, ◌≤◌, List, IsTrue}
use Rattle.bg_board.specs.FromTo.{FromTo}
use Rattle.bg_board.specs.Position.{Position}
use Rattle.bg_board.specs.declared.players.Player.{Player}
use Rattle.bg_mat.specs.Turns.{is_hit, is_marked, is_reached}
use Rattle.bg_mat.specs.declared.movements.legs.Leg.{Leg}

-- the steps hit on each point on which these legs mark a hit
abbrev pub HitsMarked : Position → Player → List Leg → List FromTo → Type 0
HitsMarked board player marked steps =
    (point : ℕ) → point ≤ 25 → IsTrue (is_marked point marked) → IsTrue (is_hit board player steps point)

-- the legs mark a hit on each point on which some of the steps end and the steps hit
abbrev pub MarksHit : Position → Player → List Leg → List FromTo → List FromTo → Type 0
MarksHit board player legs steps ending =
    (point : ℕ) → point ≤ 25 → IsTrue (is_reached point ending) → IsTrue (is_hit board player steps point)
    → IsTrue (is_marked point legs)
