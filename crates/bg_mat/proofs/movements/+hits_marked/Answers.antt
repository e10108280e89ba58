use Rattle.std.proofs.Common.{subst}
use Rattle.std.specs.Prelude.{List}
use Rattle.bg_mat.specs.ComparedHits.{HitsMarked}
use Rattle.bg_mat.specs.declared.movements.legs.Leg.{Leg}
use Rattle.bg_mat.proofs.OfReading.ComparedHits.{never, no_hit}
use Rattle.bg_mat.proofs.movements.+hits_marked.Goals as goal

-- src/movements.rt
pub returns-in-Some : goal.returns-in-Some
returns-in-Some t c = (
  λ h. never h,
  λ all. no_hit c.args.board.now c.args.player c.in-Some.leg.now c.in-Some.field-0-1.now c.args.steps.now c.if-leg.true
      c.is_hit_by.ensures.point c.if-not-is_hit_by.ensures.hit
      (subst (λ (legs : List Leg). HitsMarked c.args.board.now c.args.player legs c.args.steps.now)
      c.in-Some.ensures.cases.0 all),
)
