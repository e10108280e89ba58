use Rattle.bg_mat.proofs.OfReading.RowLemmas.{more_behind}
use Rattle.bg_mat.proofs.rows.read_cell.Goals as goal

pub returns-else-is_blank_text-clause-fault : goal.returns-else-is_blank_text-clause-fault
returns-else-is_blank_text-clause-fault c =
    more_behind c.args.text.now c.in_ok-cell.rest.now c.in_ok-cell.cell c.in_ok-cell.ensures.told
    (λ blank. let t = c.is_blank_text.ensures.1 blank in absurd (cc (t, c.if-is_blank_text.false)))
