use Rattle.std.proofs.Common.{◌↔◌, length}
use Rattle.bg_mat.specs.Rows.Headings.{HasScore}
use Rattle.bg_mat.proofs.rows.headings.has_score.Given as goal

abbrev pub invariant-loop-first : goal.invariant-loop-first
invariant-loop-first l = HasScore l.rest l.score ↔ HasScore l.text l.score

abbrev pub decreases-loop-first : goal.decreases-loop-first
decreases-loop-first l = length l.rest
