use Rattle.std.proofs.Common.{◌≡◌, ◌+◌, ◌*◌, ◌^◌, drop}
use Rattle.bg_ids.specs.Bits.{bits_number}
use Rattle.bg_ids.proofs.bits.byte_of.Given as goal

abbrev pub invariant-loop-bit : goal.invariant-loop-bit
invariant-loop-bit l = record {
  number : l.number + l.weight * bits_number (drop l.bit-index l.bits) ≡ bits_number l.bits;
  weight : l.weight ≡ 2 ^ l.bit-index;
}
