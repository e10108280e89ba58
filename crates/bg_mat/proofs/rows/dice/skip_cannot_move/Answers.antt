use Rattle.bg_mat.proofs.OfReading.LegLemmas.{if_found}
use Rattle.bg_mat.proofs.OfReading.NoCells.{cannot_move, no_cannot, no_move}
use Rattle.bg_mat.proofs.rows.dice.skip_cannot_move.Goals as goal

pub returns-in_err-skip_word : goal.returns-in_err-skip_word
returns-in_err-skip_word c = rw c.from_residual.ensures (no_cannot c.args.text.now c.in_err-skip_word.ensures)

pub returns : goal.returns
returns c =
    if_found c.skip_word-2.result
    (no_move c.args.text.now c.in_ok-skip_word.field-0.now c.in_ok-skip_word.ensures)
    (λ rest. cannot_move c.args.text.now c.in_ok-skip_word.field-0.now c.in_ok-skip_word.ensures rest.now)
    c.skip_word-2.ensures
