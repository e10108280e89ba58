use Rattle.std.proofs.Common.{arith}
use Rattle.bg_ids.proofs.Numbers.{number_step, number_end}
use Rattle.bg_ids.proofs.bits.put_number.Goals as goal

pub loop-preserved : goal.loop-preserved
loop-preserved c = record {
  items = number_step _ _ _ _ _ _ c.loop-test.true c.loop.invariant.items c.push.ensures.items;
  len = omega (arith, c.push.ensures.len, c.loop.invariant.len);
}

pub returns-clause-items : goal.returns-clause-items
returns-clause-items c = number_end _ _ _ _ _ c.loop-test.false c.loop.invariant.items
