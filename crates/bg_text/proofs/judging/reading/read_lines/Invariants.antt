use Rattle.std.proofs.Common.{length}
use Rattle.bg_text.specs.Judge.Judging.{lines_of}
use Rattle.bg_text.specs.Judge.Reading.{IsPartRead}
use Rattle.bg_text.proofs.judging.reading.read_lines.Given as goal

abbrev pub invariant-loop-line : goal.invariant-loop-line
invariant-loop-line l = IsPartRead l.fn.id l.fn.terms (lines_of l.lines) l.log l.rest

abbrev pub decreases-loop-line : goal.decreases-loop-line
decreases-loop-line l = length l.rest
