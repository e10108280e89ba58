use Rattle.bg_text.proofs.Spelling.MoveLines.{written_more}
use Rattle.bg_text.proofs.entries.writing.put_turn.Goals as goal

pub loop-step-preserved : goal.loop-step-preserved
loop-step-preserved c =
    written_more _ _ _ _ _ _
    c.loop-step.invariant c.loop-step-test.true c.step-item.is c.put_step.ensures.bytes c.put_step.ensures.fits
