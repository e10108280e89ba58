use Rattle.std.proofs.Common.{length}
use Rattle.bg_mat.proofs.movements.+count_leaving.Given as goal

abbrev pub decreases-count_leaving : goal.decreases-count_leaving
decreases-count_leaving l = length l.steps.now
