use Rattle.bg_text.proofs.Spelling.Moves.{stopped, one_more_read, one_wrong}
use Rattle.bg_text.proofs.entries.pairs.read_turn.Goals as goal

pub returns-in-Err-NotALine : goal.returns-in-Err-NotALine
returns-in-Err-NotALine c =
    stopped _ _ _ _ (rw c.in-Some.ensures at c.loop-word.invariant.0)
    (rw c.in-Err-NotALine.field-0-is at c.in-Err-NotALine.ensures)

pub loop-word-preserved-in-Ok : goal.loop-word-preserved-in-Ok
loop-word-preserved-in-Ok c = (
  one_more_read _ _ _ _ _ _
      (rw c.in-Some.ensures at c.loop-word.invariant.0) c.in-Ok.ensures c.add_step-fault.ensures.turn,
  c.add_step-fault.ensures.few,
)

pub loop-word-preserved-in-Err-BadNumber : goal.loop-word-preserved-in-Err-BadNumber
loop-word-preserved-in-Err-BadNumber c = (
  one_wrong _ _ _ _ (rw c.in-Some.ensures at c.loop-word.invariant.0)
      (rw c.in-Err-BadNumber.field-0-is at c.in-Err-BadNumber.ensures),
  c.loop-word.invariant.1,
)
