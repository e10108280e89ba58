use Rattle.std.proofs.Common.{take}
use Rattle.bg_party.specs.Learns.{Agrees}
use Rattle.bg_party.proofs.told.first_conflict.Given as goal

abbrev pub invariant-loop-index : goal.invariant-loop-index
invariant-loop-index l = Agrees l.log.entries l.start (take l.index l.list)
