-- Where things stand in a picture, in its units: x to the right, y down.
use Rattle.std.specs.Prelude.{ℕ, ◌-◌, ◌*◌, Bool, not, min, List, [], ◌∷◌, nat_le, ◌&&◌, slice_index, if◌then◌else◌}
use Rattle.std.specs.Prelude.{Option, Some, None}
use Rattle.bg_board.specs.declared.players.Player.{Player}
use Rattle.bg_board.specs.declared.players.Player.TheVariants.{X, O}

-- the x of a player's points, from 0, which is off, to 25, the bar. The same point of the other
-- player is opposite
abbrev pub columns : List ℕ
columns =
    580 ∷ 540 ∷ 500 ∷ 460 ∷ 420 ∷ 380 ∷ 340 ∷ 260 ∷ 220 ∷ 180 ∷ 140 ∷ 100 ∷ 60
    ∷ 60 ∷ 100 ∷ 140 ∷ 180 ∷ 220 ∷ 260 ∷ 340 ∷ 380 ∷ 420 ∷ 460 ∷ 500 ∷ 540 ∷ 300 ∷ []

abbrev pub column : ℕ → ℕ
column point = slice_index columns point

-- the points of a player that are on his opponent's side
abbrev pub is_far : ℕ → Bool
is_far point = nat_le 13 point && nat_le point 24

-- X's side is below
abbrev pub is_above : Player → ℕ → Bool
is_above X point = is_far point
is_above O point = not (is_far point)

-- the base line of the number of a point
abbrev pub number_line : Bool → ℕ
number_line above = if above then 58 else 516

-- the top of a stack, of which five checkers are drawn at most, each 38 high
abbrev pub stack_top : Bool → ℕ → ℕ
stack_top above count = if above then 65 else 495 - 38 * min count 5

-- the base line of the count on the fifth checker of a stack
abbrev pub count_line : Bool → ℕ
count_line above = if above then 243 else 331

-- the middle of the half where a player's dice lie, and what is offered to him
abbrev pub half : Player → ℕ
half X = 440
half O = 160

-- the middle of the cube, where nobody or a player has it
abbrev pub cube_height : Option Player → ℕ
cube_height None = 280
cube_height (Some X) = 476
cube_height (Some O) = 84
