use Rattle.std.proofs.Common.{length}
use Rattle.bg_mat.proofs.movements.+hits_marked.Given as goal

abbrev pub decreases-hits_marked : goal.decreases-hits_marked
decreases-hits_marked l = length l.marked.now
