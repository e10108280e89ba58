use Rattle.bg_mat.proofs.OfReading.ScoreLemmas.{has_less, has_more}
use Rattle.bg_mat.proofs.rows.headings.has_score.Goals as goal
use Rattle.bg_mat.proofs.rows.headings.has_score.Goals.{else-first-eq58-via-then-first-eq58+else-begins_with_score, else-first-eq58-via-else-first-eq58}

pub loop-first-preserved : goal.loop-first-preserved
loop-first-preserved c = (
  λ h. c.loop-first.invariant.0
      (has_more c.loop-first.rest.now c.in-Some.after.now c.in-Some.first.now c.args.score c.in-Some.ensures.cases.0 h),
  λ h. has_less c.loop-first.rest.now c.in-Some.after.now c.in-Some.first.now c.args.score c.in-Some.ensures.cases.0
      (λ colon begins. elim c.else-first-eq58.branch [
        | else-first-eq58-via-then-first-eq58+else-begins_with_score w ↦
            let t = w.begins_with_score.ensures.1 begins in absurd (cc (t, w.if-begins_with_score.false))
        | else-first-eq58-via-else-first-eq58 w ↦ absurd (w.if-first-eq58.false colon)
      ])
      (c.loop-first.invariant.1 h),
)
