-- The checkers of a picture, and the numbers of the points.
use Rattle.std.specs.Prelude.{ℕ, Bool, ◌==◌, List, [], ◌∷◌, ◌++◌, nat_lt, nat_le, codes, if◌then◌else◌}
use Rattle.std.specs.List.{flat_map}
use Rattle.std.specs.Fmt.{decimal}
use Rattle.bg_board.specs.Position.{Position, count}
use Rattle.bg_board.specs.declared.players.Player.{Player}
use Rattle.bg_board.specs.declared.players.Player.TheVariants.{X, O}
use Rattle.bg_picture.specs.Elements.{Element, element_text, group_start, group_end}
use Rattle.bg_picture.specs.Elements.Element.{Shape, Words}
use Rattle.bg_picture.specs.Places.{column, is_above, number_line, stack_top, count_line}

-- the class of what is a player's
unfoldable pub class_of : Player → List ℕ
class_of X = codes "x"
class_of O = codes "o"

-- the shape of a stack, of which five checkers are drawn at most
abbrev pub stack_name : ℕ → List ℕ
stack_name count =
    if count == 1 then codes "c1"
    else if count == 2 then codes "c2"
    else if count == 3 then codes "c3"
    else if count == 4 then codes "c4"
    else codes "c5"

-- how many checkers a stack has, where these are more than are drawn
unfoldable pub count_text : ℕ → Bool → ℕ → List ℕ
count_text x above count =
    if nat_lt 5 count then element_text (Words x (count_line above) (decimal count)) else []

-- a stack of checkers, where there are some
unfoldable pub stack_text : ℕ → Bool → ℕ → List ℕ
stack_text x above count =
    if nat_lt 0 count
    then element_text (Shape (stack_name count) x (stack_top above count)) ++ count_text x above count
    else []

-- the checkers of a player on one of his points
abbrev pub stack : Position → Player → ℕ → List ℕ
stack b player point = stack_text (column point) (is_above player point) (count b player point)

-- a place where a player's checkers stand
abbrev pub is_place : ℕ → Bool
is_place point = nat_le point 25

-- a player's points: off, 1 to 24, and the bar
abbrev pub all_points : List ℕ
all_points =
    0 ∷ 1 ∷ 2 ∷ 3 ∷ 4 ∷ 5 ∷ 6 ∷ 7 ∷ 8 ∷ 9 ∷ 10 ∷ 11 ∷ 12
    ∷ 13 ∷ 14 ∷ 15 ∷ 16 ∷ 17 ∷ 18 ∷ 19 ∷ 20 ∷ 21 ∷ 22 ∷ 23 ∷ 24 ∷ 25 ∷ []

unfoldable pub stacks_text : Position → Player → List ℕ → List ℕ
stacks_text b player points = flat_map (stack b player) points

-- all checkers of a player
unfoldable pub checkers_text : Position → Player → List ℕ
checkers_text b player = group_start (class_of player) ++ stacks_text b player all_points ++ group_end

-- the points with a number
abbrev pub numbered_points : List ℕ
numbered_points =
    1 ∷ 2 ∷ 3 ∷ 4 ∷ 5 ∷ 6 ∷ 7 ∷ 8 ∷ 9 ∷ 10 ∷ 11 ∷ 12
    ∷ 13 ∷ 14 ∷ 15 ∷ 16 ∷ 17 ∷ 18 ∷ 19 ∷ 20 ∷ 21 ∷ 22 ∷ 23 ∷ 24 ∷ []

-- the number of a player's point
abbrev pub number_mark : Player → ℕ → Element
number_mark player point = Words (column point) (number_line (is_above player point)) (decimal point)

unfoldable pub number_marks : Player → List ℕ → List ℕ
number_marks player points = flat_map (λ point. element_text (number_mark player point)) points

unfoldable pub numbers_name : Player → List ℕ
numbers_name X = codes "numbers-x"
numbers_name O = codes "numbers-o"

-- the numbers of a player's points, as a shape
unfoldable pub numbers_text : Player → List ℕ
numbers_text player =
    codes "<g id='" ++ numbers_name player ++ codes "'>" ++ number_marks player numbered_points ++ codes "</g>\n"
