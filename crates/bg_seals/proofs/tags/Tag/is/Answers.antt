use Rattle.std.proofs.Common.{arith}
use Rattle.bg_seals.proofs.Bits.{same_with_next}
use Rattle.bg_seals.proofs.tags.Tag.is.Goals as goal

pub loop-i-preserved : goal.loop-i-preserved
loop-i-preserved c = same_with_next _ _ _ _ (omega arith) (omega arith) c.loop-i.invariant
