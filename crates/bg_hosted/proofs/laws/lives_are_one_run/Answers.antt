use Rattle.bg_hosted.proofs.NextLives.{begins_reached, goes_on_reached}
use Rattle.bg_hosted.proofs.laws.lives_are_one_run.Goals as goal

pub returns-clause-begins : goal.returns-clause-begins
returns-clause-begins c = begins_reached

pub returns-clause-goes_on : goal.returns-clause-goes_on
returns-clause-goes_on c = goes_on_reached
