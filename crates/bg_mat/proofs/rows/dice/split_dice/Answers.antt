use Rattle.std.proofs.Common.{ℕ, List, subst, sym}
use Rattle.bg_mat.specs.Rows.Cells.{AreDice}
use Rattle.bg_mat.proofs.OfReading.Fronts.{other_dice, short_dice}
use Rattle.bg_mat.proofs.rows.dice.split_dice.Goals as goal

pub returns-in_default : goal.returns-in_default
returns-in_default c =
    let parts = c.split_blanks.ensures in
    short_dice c.args.text.now c.split_blanks.result.0.now c.split_blanks.result.1.now parts.0 parts.1 parts.2
    (rw c.in_default.is at c.split_at_checked.ensures.cases)

pub returns-in-None : goal.returns-in-None
returns-in-None c =
    let parts = c.split_blanks.ensures in
    let cut = c.in-Some.ensures.cases in
    other_dice c.args.text.now c.split_blanks.result.0.now c.split_blanks.result.1.now parts.0 parts.1 parts.2
    (λ dice is. c.in-None.ensures dice (subst (λ (w : List ℕ). AreDice w dice) (sym cut.1) is))
