use Rattle.std.proofs.Common.{length}
use Rattle.bg_mat.proofs.movements.legs.+add_legs.Given as goal

abbrev pub decreases-add_legs : goal.decreases-add_legs
decreases-add_legs l = length l.text.now
