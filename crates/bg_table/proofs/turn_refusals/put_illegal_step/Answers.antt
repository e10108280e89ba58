use Rattle.std.proofs.Common.{refl}
use Rattle.std.specs.Prelude.{codes}
use Rattle.bg_text.specs.Boards.BoardText.{line_text}
use Rattle.bg_table.specs.StepRefusals.{refusal_words}
use Rattle.bg_table.proofs.Grown.{two_parts}
use Rattle.bg_table.proofs.turn_refusals.put_illegal_step.Goals as goal

pub returns : goal.returns
returns c =
    let refusal = c.refused_step-refusal.result in
    let words = refusal_words c.args.board.now c.args.player c.args.dice refusal in
    let put = two_parts words (codes "\n") _ _ _ c.in_ok-put_step_refusal.ensures c.in_ok-put_text.ensures in
    (line_text words, (c.dice_left-left.result, refusal, c.dice_left-left.ensures, c.refused_step-refusal.ensures, refl), put)
