use Rattle.std.proofs.Common.{◌≡◌, ◌+◌, drop}
use Rattle.bg_table.specs.Pips.{pips_from}
use Rattle.bg_table.proofs.pips.pip_count.Given as goal

abbrev pub invariant-loop-point : goal.invariant-loop-point
invariant-loop-point l = l.pips + pips_from l.point (drop l.point l.counts) ≡ pips_from 0 l.counts
