use Rattle.std.proofs.Common.{arith}
use Rattle.bg_ids.proofs.Numbers.{bytes_step, bytes_end}
use Rattle.bg_ids.proofs.bits.bytes_of.Goals as goal

pub loop-preserved : goal.loop-preserved
loop-preserved c = record {
  items = bytes_step _ _ _ _ _ _ _ _ _ _ c.loop-test.true c.loop.invariant.items c.min.ensures
      c.split_at.ensures.front c.split_at.ensures.back c.byte_of.ensures c.push.ensures.items;
  len = omega (arith, c.push.ensures.len, c.loop.invariant.len);
}

pub returns : goal.returns
returns c = bytes_end _ _ _ _ _ c.loop-test.false c.loop.invariant.items
