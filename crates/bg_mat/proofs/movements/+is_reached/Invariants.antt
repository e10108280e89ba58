use Rattle.std.proofs.Common.{length}
use Rattle.bg_mat.proofs.movements.+is_reached.Given as goal

abbrev pub decreases-is_reached : goal.decreases-is_reached
decreases-is_reached l = length l.steps.now
