use Rattle.std.proofs.Common.{subst}
use Rattle.std.specs.Prelude.{List}
use Rattle.bg_board.specs.FromTo.{FromTo}
use Rattle.bg_mat.specs.ComparedHits.{MarksHit}
use Rattle.bg_mat.proofs.OfReading.ComparedHits.{never, no_mark}
use Rattle.bg_mat.proofs.movements.+marks_hit.Goals as goal

-- src/movements.rt
pub returns-in-Some : goal.returns-in-Some
returns-in-Some t c = (
  λ h. never h,
  λ all. no_mark c.args.board.now c.args.player c.args.legs.now c.args.steps.now c.in-Some.step.now c.in-Some.field-0-1.now
      c.is_hit_by.ensures.point c.if-is_hit_by.ensures.hit (rw (c.to.ensures.value) at c.if-not-is_marked.ensures)
      (subst (λ (ending : List FromTo). MarksHit c.args.board.now c.args.player c.args.legs.now c.args.steps.now ending)
      c.in-Some.ensures.cases.0 all),
)
