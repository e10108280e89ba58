use Rattle.std.proofs.Common.{◌≡◌, ◌≤◌, length}
use Rattle.bg_ids.proofs.Points.{IsReadSoFar}
use Rattle.bg_ids.proofs.reading.read_side.Given as goal

abbrev pub invariant-loop : goal.invariant-loop
invariant-loop l = record {
  read : IsReadSoFar l.bits l.counter l.used l.counts.items l.off;
  within : l.used ≤ length l.bits;
  len : length l.counts.items ≡ l.counter;
}
