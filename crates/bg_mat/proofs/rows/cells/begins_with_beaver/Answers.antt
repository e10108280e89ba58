use Rattle.bg_mat.proofs.OfReading.RowLemmas.{beaver_by, no_beaver_word}
use Rattle.bg_mat.proofs.rows.cells.begins_with_beaver.Goals as goal

pub returns-in-Some : goal.returns-in-Some
returns-in-Some c =
    beaver_by c.args.text.now c.in-Some.word.now c.in-Some.field-0-1.now c.is_beaver.result c.in-Some.ensures c.is_beaver.ensures

pub returns-in-None : goal.returns-in-None
returns-in-None c = (λ t. absurd (cc (t)), λ b. absurd (no_beaver_word c.args.text.now c.in-None.ensures b))
