-- The cube, the dice and the offers of a picture.
use Rattle.std.specs.Prelude.{ℕ, ◌+◌, ◌-◌, ◌*◌, Bool, true, false, List, [], ◌++◌, Some, None, codes}
use Rattle.std.specs.Fmt.{decimal}
use Rattle.bg_board.specs.Position.{opponent}
use Rattle.bg_board.specs.declared.dice.Die.{Die}
use Rattle.bg_board.specs.declared.dice.Die.TheVariants as die
use Rattle.bg_board.specs.declared.players.Player.{Player}
use Rattle.bg_turns.specs.declared.throws.Dice.{Dice}
use Rattle.bg_match.specs.declared.levels.Level.{Level}
use Rattle.bg_match.specs.declared.phases.Cube.{Cube}
use Rattle.bg_match.specs.declared.phases.Phase.{Phase}
use Rattle.bg_match.specs.declared.phases.Phase.TheVariants as phase
use Rattle.bg_text.specs.Entries.EntryText.{level_word}
use Rattle.bg_picture.specs.Elements.{element_text, group_start, group_end}
use Rattle.bg_picture.specs.Elements.Element.{Shape, Words}
use Rattle.bg_picture.specs.Places.{half, cube_height}
use Rattle.bg_picture.specs.Stacks.{class_of}

-- a cube that shows a value, around a place
unfoldable pub cube_at : ℕ → ℕ → ℕ → List ℕ
cube_at x y value =
    group_start (codes "cube") ++ element_text (Shape (codes "cube") x y)
    ++ element_text (Words x (y + 6) (decimal value)) ++ group_end

-- the cube: beside the board, in the middle or on its owner's side; but while a double is to be
-- answered before the player who answers, with twice its value
unfoldable pub cube_text : Phase → Cube → List ℕ
cube_text (phase.Doubled p) cube = cube_at (half p) 280 (2 * cube.value)
cube_text _ cube = cube_at 20 (cube_height cube.owner) cube.value

abbrev pub die_name : Die → List ℕ
die_name die.One = codes "d1"
die_name die.Two = codes "d2"
die_name die.Three = codes "d3"
die_name die.Four = codes "d4"
die_name die.Five = codes "d5"
die_name die.Six = codes "d6"

-- a die, around a place
unfoldable pub die_text : ℕ → Die → List ℕ
die_text x die = element_text (Shape (die_name die) x 280)

-- the dice of a player, beside each other in the middle of his half
unfoldable pub dice_text : Player → Dice → List ℕ
dice_text p dice =
    group_start (class_of p) ++ die_text (half p - 21) dice.first ++ die_text (half p + 21) dice.second ++ group_end

-- what stands beside the dice of a player, whose turn is to be passed or not
unfoldable pub pass_text : ℕ → Bool → List ℕ
pass_text x true = element_text (Words (x + 75) 287 (codes "pass"))
pass_text x false = []

-- what a player is offered: the level at which the other one resigns
unfoldable pub offer_text : Player → Level → List ℕ
offer_text p level =
    element_text (Shape (codes "tag") (half p) 280) ++ element_text (Words (half p) 287 (level_word level))

-- what lies on the board in a phase, where a turn is to be passed or not
unfoldable pub table_text : Phase → Bool → List ℕ
table_text (phase.ToMove p dice) passing = dice_text p dice ++ pass_text (half p) passing
table_text (phase.Resigned p level None) passing = offer_text (opponent p) level
table_text (phase.Resigned p level (Some dice)) passing = dice_text p dice ++ offer_text (opponent p) level
table_text _ passing = []
