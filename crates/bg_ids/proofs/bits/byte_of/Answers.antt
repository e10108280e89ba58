use Rattle.std.proofs.Common.{arith}
use Rattle.bg_ids.proofs.Numbers.{byte_step, bits_of_byte, power_more}
use Rattle.bg_ids.proofs.bits.byte_of.Goals as goal

pub overflow_add-number : goal.overflow_add-number
overflow_add-number c =
    omega (
      arith,
      byte_step _ _ _ _ _ _ c.loop-bit-test.true c.loop-bit.invariant.number c.from.ensures,
      bits_of_byte c.args.bits.now c.requires,
    )

pub loop-bit-preserved : goal.loop-bit-preserved
loop-bit-preserved c = record {
  number = byte_step _ _ _ _ _ _ c.loop-bit-test.true c.loop-bit.invariant.number c.from.ensures;
  weight = omega (arith, c.loop-bit.invariant.weight, power_more c.loop-bit.bit-index);
}

pub overflow_cast-result : goal.overflow_cast-result
overflow_cast-result c = omega (arith, c.loop-bit.invariant.number, bits_of_byte c.args.bits.now c.requires)
