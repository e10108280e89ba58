use Rattle.bg_mat.proofs.OfReading.Refusing.{if_err}
use Rattle.bg_mat.proofs.OfReading.RowLemmas.{row_refused}
use Rattle.bg_mat.proofs.rows.read_row.Goals as goal

pub returns-clause-fault : goal.returns-clause-fault
returns-clause-fault c =
    if_err c.read_cells.result
    (λ fault. row_refused c.args.line.now c.skip_row_number.result.now fault c.skip_row_number.ensures)
    c.read_cells.ensures.fault
