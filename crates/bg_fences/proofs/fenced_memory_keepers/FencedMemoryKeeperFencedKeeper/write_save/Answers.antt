use Rattle.bg_fences.proofs.FencedWrites.{keeps_fence}
use Rattle.bg_fences.proofs.fenced_memory_keepers.FencedMemoryKeeperFencedKeeper.write_save.Goals as goal

pub returns-clause-fence : goal.returns-clause-fence
returns-clause-fence c = λ fenced. keeps_fence c.args.save.now _ _ _ c.requires (rw c.as_slice.ensures.value at c.write.ensures.next)
