use Rattle.bg_mat.proofs.OfReading.NoCells.{no_double_end, no_double_number, no_double_word}
use Rattle.bg_mat.proofs.rows.doubles.split_double.Goals as goal

pub returns-in_err-rest : goal.returns-in_err-rest
returns-in_err-rest c = rw c.from_residual.ensures (no_double_word c.args.text.now c.in_err-rest.ensures)

pub returns-in_err-number : goal.returns-in_err-number
returns-in_err-number c =
    rw c.from_residual-in_err-number.ensures
    (no_double_end c.args.text.now c.in_ok-rest.rest.now c.in-Some.behind.now c.in_ok-rest.ensures
    c.in-Some.ensures c.in_err-number.ensures)

pub returns-in_err-read_number : goal.returns-in_err-read_number
returns-in_err-read_number c =
    rw c.from_residual-in_err-read_number.ensures
    (no_double_number c.args.text.now c.in_ok-rest.rest.now c.in-Some.behind.now c.in_ok-number.number.now
    c.in_ok-number.rest.now c.in_ok-rest.ensures c.in-Some.ensures c.in_ok-number.ensures
    c.in_err-read_number.ensures)
