use Rattle.std.proofs.Common.{length}
use Rattle.bg_mat.proofs.rows.cell_texts.+put_legs.Given as goal

abbrev pub decreases-put_legs : goal.decreases-put_legs
decreases-put_legs l = length l.legs.now
