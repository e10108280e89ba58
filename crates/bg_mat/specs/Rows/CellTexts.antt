-- The texts of cells.
use Rattle.std.specs.Prelude.{ℕ, ◌==◌, Bool, true, false, Some, None, List, [], ◌∷◌, ◌++◌, codes, if◌then◌else◌}
use Rattle.std.specs.Fmt.{decimal}
use Rattle.bg_turns.specs.Dice.{first_pips, second_pips}
use Rattle.bg_turns.specs.declared.throws.Dice.{Dice}
use Rattle.bg_mat.specs.Legs.{mark}
use Rattle.bg_mat.specs.declared.rows.cells.Cell.{Cell}
use Rattle.bg_mat.specs.declared.rows.cells.Cell.TheVariants.{Turn, CannotMove, Unknown, Doubles, Takes, Drops, Wins}
use Rattle.bg_mat.specs.declared.rows.cells.Win.{Win}
use Rattle.bg_mat.specs.declared.movements.legs.Leg.{Leg}

abbrev pub dice_text : Dice → List ℕ
dice_text dice = decimal (first_pips dice) ++ decimal (second_pips dice) ++ codes ":"

-- a blank, and the word of a leg
abbrev pub leg_text : Leg → List ℕ
leg_text leg = codes " " ++ decimal leg.step.from ++ codes "/" ++ decimal leg.step.to ++ mark leg.hits

abbrev pub legs_text : List Leg → List ℕ
legs_text [] = []
legs_text (leg ∷ legs) = leg_text leg ++ legs_text legs

abbrev pub points_text : ℕ → List ℕ
points_text points = if points == 1 then codes " point" else codes " points"

abbrev pub ending_text : Bool → List ℕ
ending_text true = codes " and the match"
ending_text false = []

abbrev pub win_text : Win → List ℕ
win_text win = codes " Wins " ++ decimal win.points ++ points_text win.points ++ ending_text win.ends_match

abbrev pub cell_text : Cell → List ℕ
cell_text (Turn dice legs) = dice_text dice ++ legs_text legs.items
cell_text (CannotMove dice) = dice_text dice ++ codes " Cannot Move"
cell_text (Unknown dice) = dice_text dice ++ codes " ????"
cell_text (Doubles None) = codes " Doubles"
cell_text (Doubles (Some shows)) = codes " Doubles => " ++ decimal shows
cell_text Takes = codes " Takes"
cell_text Drops = codes " Drops"
cell_text (Wins win) = win_text win
