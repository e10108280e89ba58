use Rattle.std.proofs.Common.{refl}
use Rattle.bg_fences.proofs.FencedWrites.{counted, writes_honestly}
use Rattle.bg_fences.proofs.fenced_memory_keepers.FencedMemoryKeeperKeeper.write.Goals as goal

pub returns-clause-once : goal.returns-clause-once
returns-clause-once c = record {
  writes = c.marked-self.ensures;
  reads = refl;
  written = refl;
  plan = refl;
  cause = counted _ _ _ c.count_failed-self.ensures;
  slots = λ honest. writes_honestly _ _ _ _ _ c.write_next-self.ensures;
  planned = tt;
  counted = tt;
}
