use Rattle.std.proofs.Common.{◌≡◌, ◌++◌, length}
use Rattle.bg_mat.specs.Rows.RowTexts.{grouped, lines_text}
use Rattle.bg_mat.proofs.exporting.put_tellings.Given as goal

abbrev pub invariant-loop-first : goal.invariant-loop-first
invariant-loop-first l =
    l.initial.out.items ++ lines_text 1 (grouped l.tellings) ≡ l.out.items ++ lines_text l.row (grouped l.rest)

abbrev pub decreases-loop-first : goal.decreases-loop-first
decreases-loop-first l = length l.rest
