use Rattle.bg_ids.proofs.Points.{AreOnes}
use Rattle.bg_ids.proofs.reading.ones.Given as goal

abbrev pub invariant-loop-count : goal.invariant-loop-count
invariant-loop-count l = AreOnes l.bits l.count
