use Rattle.bg_text.proofs.Spelling.MoveLines.{IsWritten}
use Rattle.bg_text.proofs.entries.writing.put_turn.Given as goal

abbrev pub invariant-loop-step : goal.invariant-loop-step
invariant-loop-step l = IsWritten l.fn.line.bytes l.line.bytes l.steps l.step-index
