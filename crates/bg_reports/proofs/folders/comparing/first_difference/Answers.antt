use native.Mathlib.Numerals.{unary_clauses}
use Rattle.bg_reports.proofs.SameFronts.{same_more}
use Rattle.bg_reports.proofs.folders.comparing.first_difference.Goals as goal

pub loop-before-preserved : goal.loop-before-preserved
loop-before-preserved c =
    let same = simp unary_clauses at (c.is_same_at.ensures.0 c.if-not-is_same_at.false) in
    simp unary_clauses (same_more _ _ c.loop-before.before same c.loop-before.invariant)
