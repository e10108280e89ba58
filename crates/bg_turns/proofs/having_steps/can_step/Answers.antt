use Rattle.bg_turns.proofs.HavingSteps.{most_tells}
use Rattle.bg_turns.proofs.having_steps.can_step.Goals as goal

pub returns : goal.returns
returns c = most_tells c.args.board.now c.args.player c.args.dice c.most.result c.most.ensures.most
