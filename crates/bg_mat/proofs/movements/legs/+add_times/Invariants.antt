use Rattle.bg_mat.proofs.movements.legs.+add_times.Given as goal

abbrev pub decreases-add_times : goal.decreases-add_times
decreases-add_times l = l.count
