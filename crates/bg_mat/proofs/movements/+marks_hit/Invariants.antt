use Rattle.std.proofs.Common.{length}
use Rattle.bg_mat.proofs.movements.+marks_hit.Given as goal

abbrev pub decreases-marks_hit : goal.decreases-marks_hit
decreases-marks_hit l = length l.ending.now
