use Rattle.std.proofs.Common.{◌≡◌, ℕ, take, subst, sym, arith}
use Rattle.bg_mat.specs.Rows.Words.{EndsSolid}
use Rattle.bg_mat.proofs.OfReading.ScoreLemmas.{ends_at}
use Rattle.bg_mat.proofs.rows.headings.trim_end.Goals as goal
use Rattle.bg_mat.proofs.rows.headings.trim_end.Goals.{then-loop-end-test+else-is_blank, else-loop-end-test}

pub returns-clause-solid : goal.returns-clause-solid
returns-clause-solid c =
    elim c.loop-end-test.branch [
      | then-loop-end-test+else-is_blank w ↦
          ends_at c.args.text.now c.loop-end.end w.is_blank.result (omega (arith, w.loop-end-test)) c.loop-end.invariant.within
          w.is_blank.ensures w.if-is_blank.false
      | else-loop-end-test w ↦
          let none : c.loop-end.end ≡ 0 = omega (arith, w.loop-end-test) in
          subst (λ (n : ℕ). EndsSolid (take n c.args.text.now)) (sym none) tt
    ]
