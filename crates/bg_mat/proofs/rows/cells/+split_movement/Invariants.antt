use Rattle.std.proofs.Common.{length}
use Rattle.bg_mat.proofs.rows.cells.+split_movement.Given as goal

abbrev pub decreases-split_movement : goal.decreases-split_movement
decreases-split_movement l = length l.text.now
