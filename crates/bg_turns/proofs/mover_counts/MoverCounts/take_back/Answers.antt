use Rattle.std.proofs.Common.{arith}
use Rattle.bg_turns.proofs.Lists.TakenBack.{taken-back}
use Rattle.bg_turns.proofs.mover_counts.MoverCounts.take_back.Goals as goal

pub returns : goal.returns
returns c before is held same =
    let below = c.to.ensures.below in
    let high = c.from-2.ensures.greatest in
    rw (c.from-3.ensures, c.from-2.ensures.value, c.from.ensures, c.to.ensures.value)
    (taken-back c.args.self.now before c.args.step.from c.args.step.to is (omega arith) (omega arith) held same)
