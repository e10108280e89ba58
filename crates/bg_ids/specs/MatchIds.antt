-- The Match ID of a standing.
use Rattle.std.specs.Prelude.{ℕ, Bool, true, false, ◌&&◌, min, nat_lt, Option, Some, None, List, [], ◌∷◌, if◌then◌else◌}
use Rattle.std.specs.List.{flat_map}
use Rattle.std.specs.Int.{w8, trailing_zeros}
use Rattle.bg_board.specs.Die.{pips}
use Rattle.bg_board.specs.declared.players.Player.{Player}
use Rattle.bg_board.specs.declared.players.Player.TheVariants.{X, O}
use Rattle.bg_turns.specs.Dice.{larger_die}
use Rattle.bg_turns.specs.declared.throws.Dice.{Dice}
use Rattle.bg_match.specs.State.{State}
use Rattle.bg_match.specs.Terms.{match_length}
use Rattle.bg_match.specs.declared.levels.Level.{Level}
use Rattle.bg_match.specs.declared.levels.Level.TheVariants.{Normal, Gammon, Backgammon}
use Rattle.bg_match.specs.declared.phases.Phase.{Phase}
use Rattle.bg_match.specs.declared.phases.Phase.TheVariants.{Opening, Doubled, ToMove, Resigned, Over}
use Rattle.bg_ids.specs.Bits.{number_bits, bits_text}
use Rattle.bg_ids.specs.Turns.{on_roll, to_act}
use Rattle.bg_ids.specs.declared.match_ids.BitField.{BitField}

-- how often the cube was doubled: it shows 2 to the power of this
abbrev pub doublings : ℕ → ℕ
doublings value = trailing_zeros w8 value

-- what the die shows that shows less
abbrev pub smaller_die : Dice → ℕ
smaller_die dice = min (pips dice.first) (pips dice.second)

abbrev pub player_number : Player → ℕ
player_number O = 0
player_number X = 1

-- whose the cube is; 3 in the middle
abbrev pub owner_number : Option Player → ℕ
owner_number None = 3
owner_number (Some player) = player_number player

abbrev pub yes_number : Bool → ℕ
yes_number b = if b then 1 else 0

-- the game is played without the cube, as in a match of one point none is played otherwise: there
-- it is not told
abbrev pub is_crawford : State → Bool
is_crawford s = s.crawford && nat_lt 1 (match_length s.terms)

-- no game, a game that is played, or one that has ended
abbrev pub stage_number : Phase → ℕ
stage_number Opening = 0
stage_number (Over p) = 2
stage_number _ = 1

-- whether a double is answered
abbrev pub is_doubled : Phase → Bool
is_doubled (Doubled p) = true
is_doubled _ = false

-- the level of an offer to resign, where there is one
abbrev pub level_number : Level → ℕ
level_number Normal = 1
level_number Gammon = 2
level_number Backgammon = 3

abbrev pub resigned_number : Phase → ℕ
resigned_number (Resigned p level back) = level_number level
resigned_number _ = 0

-- the dice that are still to be moved, where they were rolled
abbrev pub dice_of : Phase → Option Dice
dice_of (ToMove p dice) = Some dice
dice_of (Resigned p level back) = back
dice_of _ = None

-- the greater die, and the other one
abbrev pub greater_number : Option Dice → ℕ
greater_number None = 0
greater_number (Some dice) = larger_die dice

abbrev pub lesser_number : Option Dice → ℕ
lesser_number None = 0
lesser_number (Some dice) = smaller_die dice

abbrev pub field : ℕ → ℕ → BitField
field number width = record { number = number; width = width }

-- the fields in their order, each a number and how many bits it has. The last says that the Jacoby
-- rule is not used, which no match has
abbrev pub match_fields : State → List BitField
match_fields s =
    field (doublings s.cube.value) 4
    ∷ field (owner_number s.cube.owner) 2
    ∷ field (player_number (on_roll s.phase)) 1
    ∷ field (yes_number (is_crawford s)) 1
    ∷ field (stage_number s.phase) 3
    ∷ field (player_number (to_act s.phase)) 1
    ∷ field (yes_number (is_doubled s.phase)) 1
    ∷ field (resigned_number s.phase) 2
    ∷ field (greater_number (dice_of s.phase)) 3
    ∷ field (lesser_number (dice_of s.phase)) 3
    ∷ field (match_length s.terms) 15
    ∷ field s.o_score 15
    ∷ field s.x_score 15
    ∷ field 1 1
    ∷ []

abbrev pub width : BitField → ℕ
width f = f.width

abbrev pub field_bits : BitField → List Bool
field_bits f = number_bits f.width f.number

abbrev pub match_bits : State → List Bool
match_bits s = flat_map field_bits (match_fields s)

-- the Match ID: nine bytes, which are 12 characters
abbrev pub match_text : State → List ℕ
match_text s = bits_text 9 (match_bits s)
