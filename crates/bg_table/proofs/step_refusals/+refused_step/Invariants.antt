use Rattle.std.proofs.Common.{length}
use Rattle.bg_table.proofs.step_refusals.+refused_step.Given as goal

abbrev pub decreases-refused_step : goal.decreases-refused_step
decreases-refused_step l = length l.steps.now
