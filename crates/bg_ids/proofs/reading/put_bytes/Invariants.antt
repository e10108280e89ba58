use Rattle.std.proofs.Common.{◌≡◌, ◌+◌, ◌*◌, ◌++◌, take, length}
use Rattle.std.specs.List.{flat_map}
use Rattle.bg_ids.specs.Bits.{number_bits}
use Rattle.bg_ids.proofs.reading.put_bytes.Given as goal

abbrev pub invariant-loop-byte : goal.invariant-loop-byte
invariant-loop-byte l = record {
  items : l.bits.items ≡ l.fn.bits.items ++ flat_map (number_bits 8) (take l.byte-index l.bytes);
  len : length l.bits.items ≡ length l.fn.bits.items + 8 * l.byte-index;
}
