use Rattle.std.proofs.Common.{◌≡◌, ◌-◌, ◌++◌, length}
use Rattle.bg_ids.specs.Bits.{bits_bytes}
use Rattle.bg_ids.proofs.bits.bytes_of.Given as goal

abbrev pub invariant-loop : goal.invariant-loop
invariant-loop l = record {
  items : l.bytes.items ++ bits_bytes (l.count - l.counter) l.rest ≡ bits_bytes l.count l.bits.items;
  len : length l.bytes.items ≡ l.counter;
}
