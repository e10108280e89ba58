use Rattle.bg_protocol.proofs.Deliveries.KeptTexts.{writes_honestly}
use Rattle.bg_protocol.proofs.devices.memory_keeper.MemoryKeeperKeeper.write.Goals as goal

pub returns-clause-honest : goal.returns-clause-honest
returns-clause-honest c = λ _. writes_honestly _ _ _ _ _ _ c.write_by-self.ensures
