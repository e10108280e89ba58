use Rattle.bg_turns.proofs.HavingSteps.{tells_steps}
use Rattle.bg_turns.proofs.having_steps.law_of_steps.Goals as goal

pub returns : goal.returns
returns c = tells_steps
