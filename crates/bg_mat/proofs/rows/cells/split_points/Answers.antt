use Rattle.bg_mat.proofs.OfReading.NoCells.{no_points_end, no_points_name, no_points_number, no_points_word}
use Rattle.bg_mat.proofs.rows.cells.split_points.Goals as goal

pub returns-in_err-number : goal.returns-in_err-number
returns-in_err-number c = rw c.from_residual.ensures (no_points_word c.args.text.now c.in_err-number.ensures)

pub returns-in_err-points : goal.returns-in_err-points
returns-in_err-points c =
    rw c.from_residual-in_err-points.ensures
    (no_points_number c.args.text.now c.in_ok-number.number.now c.in_ok-number.rest.now c.in_ok-number.ensures
    c.in_err-points.ensures)

pub returns-in_err-word : goal.returns-in_err-word
returns-in_err-word c =
    rw c.from_residual-in_err-word.ensures
    (no_points_end c.args.text.now c.in_ok-number.number.now c.in_ok-number.rest.now c.in_ok-number.ensures
    c.in_err-word.ensures)

pub returns-else-is_points : goal.returns-else-is_points
returns-else-is_points c =
    no_points_name c.args.text.now c.in_ok-number.number.now c.in_ok-number.rest.now c.in_ok-word.word.now c.in_ok-word.rest.now
    c.in_ok-number.ensures c.in_ok-word.ensures
    (λ is. let t = c.is_points.ensures.1 is in absurd (cc (t, c.if-is_points.false)))
