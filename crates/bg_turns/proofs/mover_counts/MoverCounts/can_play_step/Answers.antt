use Rattle.std.proofs.Common.{◌≡◌, ◌-◌, arith}
use Rattle.bg_turns.proofs.Deepest.{step_by_test, held_by_test}
use Rattle.bg_turns.proofs.mover_counts.MoverCounts.can_play_step.Goals as goal

pub returns-then-to-saturating_sub-clause-step : goal.returns-then-to-saturating_sub-clause-step
returns-then-to-saturating_sub-clause-step c b p s =
    let lands : c.args.step.to ≡ c.args.step.from - c.args.die =
    rw (c.to.ensures.value, c.saturating_sub.ensures, c.from.ensures.value) at c.if-to-saturating_sub.true in
    let below = c.to.ensures.below in
    step_by_test c.args.self.now b p s c.args.die c.requires.die c.args.step (omega arith) (omega arith) lands c.can_play.result
    (rw c.from-then-to-saturating_sub.ensures.value at c.can_play.ensures)

pub returns-then-to-saturating_sub-clause-held : goal.returns-then-to-saturating_sub-clause-held
returns-then-to-saturating_sub-clause-held c =
    let is = rw c.from-then-to-saturating_sub.ensures.value at c.can_play.ensures in
    held_by_test c.args.self.now c.args.step.from c.args.die c.can_play.result is
