use Rattle.std.proofs.Common.{◌≤◌, drop, length}
use Rattle.bg_mat.specs.Rows.Words.{IsBlankText}
use Rattle.bg_mat.proofs.rows.headings.trim_end.Given as goal

abbrev pub invariant-loop-end : goal.invariant-loop-end
invariant-loop-end l = record {
  within : l.end ≤ length l.text;
  blank : IsBlankText (drop l.end l.text);
}

abbrev pub decreases-loop-end : goal.decreases-loop-end
decreases-loop-end l = l.end
