use Rattle.std.proofs.Common.{◌≡◌, drop}
use Rattle.bg_text.specs.Judge.Judging.{lines_of}
use Rattle.bg_reports.proofs.checking.lines.line_at.Given as goal

abbrev pub invariant-loop-before : goal.invariant-loop-before
invariant-loop-before l = drop l._before (lines_of l.text) ≡ lines_of l.rest
