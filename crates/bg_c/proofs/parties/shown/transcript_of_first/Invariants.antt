use Rattle.std.proofs.Common.{◌+◌}
use Rattle.bg_text.specs.Judge.Reading.{IsPartWritten}
use Rattle.bg_c.proofs.parties.shown.transcript_of_first.Given as goal

abbrev pub invariant-loop-written : goal.invariant-loop-written
invariant-loop-written l = IsPartWritten l.log (l.written + 1) l.text.items
