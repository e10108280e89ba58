use Rattle.std.proofs.Common.{◌↔◌, length}
use Rattle.bg_mat.specs.Files.{HasCrawford}
use Rattle.bg_text.specs.Judge.Judging.{lines_of}
use Rattle.bg_mat.proofs.rows.crawford.has_crawford.Given as goal

abbrev pub invariant-loop-line : goal.invariant-loop-line
invariant-loop-line l = HasCrawford (lines_of l.rest) ↔ HasCrawford (lines_of l.input)

abbrev pub decreases-loop-line : goal.decreases-loop-line
decreases-loop-line l = length l.rest
