use Rattle.std.proofs.Common.{arith}
use Rattle.bg_wire.proofs.OfSaves.DecidedSlots.{reads_first, reads_second}
use Rattle.bg_wire.proofs.saves.restoring.read_newer.Goals as goal

pub returns-then-told_save-clause-reads : goal.returns-then-told_save-clause-reads
returns-then-told_save-clause-reads c =
    reads_second c.args.slot0.now c.args.slot1.now (λ i. omega (arith, c.type_inv.slot0 i)) (λ i. omega (arith, c.type_inv.slot1 i)) _ _
    c.told_save.ensures c.told_save-2.ensures _ c.if-told_save.true c.read_first.ensures.reads

pub returns-else-told_save-clause-reads : goal.returns-else-told_save-clause-reads
returns-else-told_save-clause-reads c =
    reads_first c.args.slot0.now c.args.slot1.now (λ i. omega (arith, c.type_inv.slot0 i)) (λ i. omega (arith, c.type_inv.slot1 i)) _ _
    c.told_save.ensures c.told_save-2.ensures _ c.if-told_save.false c.read_first-else-told_save.ensures.reads
