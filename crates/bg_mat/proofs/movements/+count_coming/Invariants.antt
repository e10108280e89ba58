use Rattle.std.proofs.Common.{length}
use Rattle.bg_mat.proofs.movements.+count_coming.Given as goal

abbrev pub decreases-count_coming : goal.decreases-count_coming
decreases-count_coming l = length l.steps.now
