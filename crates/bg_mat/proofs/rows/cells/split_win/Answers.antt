use Rattle.std.proofs.Common.{refl}
use Rattle.bg_mat.proofs.OfReading.NoCells.{no_match, no_the, no_win_end, no_win_points, no_win_word}
use Rattle.bg_mat.proofs.rows.cells.split_win.Goals as goal

pub returns-in_err-skip_either : goal.returns-in_err-skip_either
returns-in_err-skip_either c = rw c.from_residual.ensures (no_win_word c.args.text.now c.in_err-skip_either.ensures)

pub returns-in_err-points : goal.returns-in_err-points
returns-in_err-points c =
    rw c.from_residual-in_err-points.ensures
    (no_win_points c.args.text.now c.in_ok-skip_either.field-0.now c.in_ok-skip_either.ensures c.in_err-points.ensures)

pub returns-in_err-skip_word : goal.returns-in_err-skip_word
returns-in_err-skip_word c =
    rw c.from_residual-in_err-skip_word.ensures
    (no_win_end c.args.text.now c.in_ok-skip_either.field-0.now c.in_ok-points.rest.now c.in-Some.end.now c.in_ok-points.points
    c.in_ok-skip_either.ensures c.in_ok-points.ensures c.in-Some.ensures
    (no_the c.in-Some.end.now c.in_err-skip_word.ensures))

pub returns-in_err-end : goal.returns-in_err-end
returns-in_err-end c =
    rw c.from_residual-in_err-end.ensures
    (no_win_end c.args.text.now c.in_ok-skip_either.field-0.now c.in_ok-points.rest.now c.in-Some.end.now c.in_ok-points.points
    c.in_ok-skip_either.ensures c.in_ok-points.ensures c.in-Some.ensures
    (no_match c.in-Some.end.now c.in_ok-skip_word.field-0.now c.in_ok-skip_word.ensures c.in_err-end.ensures))

pub returns-in_default : goal.returns-in_default
returns-in_default c = (
  c.in_ok-skip_either.field-0.now,
  c.in_ok-points.rest.now,
  c.in_ok-skip_either.ensures,
  c.in_ok-points.ensures,
  refl,
  λ goes_on. c.in_default.ensures,
)

pub returns : goal.returns
returns c = (
  c.in_ok-skip_either.field-0.now,
  c.in_ok-points.rest.now,
  c.in_ok-skip_either.ensures,
  c.in_ok-points.ensures,
  (
    c.in-Some.end.now,
    c.in-Some.ensures,
    (c.in_ok-skip_word.field-0.now, c.in_ok-skip_word.ensures, (c.in_ok-end.end.now, c.in_ok-end.ensures, refl)),
  ),
  λ ends. absurd (cc (ends)),
)
