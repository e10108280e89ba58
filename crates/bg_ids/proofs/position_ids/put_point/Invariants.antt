use Rattle.std.proofs.Common.{◌≡◌, ◌+◌, ◌++◌, replicate, true, length}
use Rattle.bg_ids.proofs.position_ids.put_point.Given as goal

abbrev pub invariant-loop : goal.invariant-loop
invariant-loop l = record {
  items : l.bits.items ≡ l.fn.bits.items ++ replicate l.counter true;
  len : length l.bits.items ≡ length l.fn.bits.items + l.counter;
}
