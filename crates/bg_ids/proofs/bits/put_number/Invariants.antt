use Rattle.std.proofs.Common.{◌≡◌, ◌+◌, ◌-◌, ◌++◌, length}
use Rattle.bg_ids.specs.Bits.{number_bits}
use Rattle.bg_ids.proofs.bits.put_number.Given as goal

abbrev pub invariant-loop : goal.invariant-loop
invariant-loop l = record {
  items : l.bits.items ++ number_bits (l.width - l.counter) l.rest ≡ l.fn.bits.items ++ number_bits l.width l.number;
  len : length l.bits.items ≡ length l.fn.bits.items + l.counter;
}
