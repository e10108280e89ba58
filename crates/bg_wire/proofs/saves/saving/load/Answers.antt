use Rattle.std.proofs.Common.{arith}
use Rattle.bg_wire.proofs.OfSaves.Loading.{found, savable, only, short, extra, illegal, only_illegal, memory, why}
use Rattle.bg_wire.proofs.saves.saving.load.Goals as goal

pub returns-clause-found : goal.returns-clause-found
returns-clause-found c = found c.args.bytes.now c.load_record.result c.load_record.ensures (λ i. omega (arith, c.type_inv.bytes i))

pub returns-clause-savable : goal.returns-clause-savable
returns-clause-savable c = savable c.args.bytes.now c.load_record.result c.load_record.ensures (λ i. omega (arith, c.type_inv.bytes i))

pub returns-clause-only : goal.returns-clause-only
returns-clause-only c = only c.args.bytes.now c.load_record.result c.load_record.ensures

pub returns-clause-short : goal.returns-clause-short
returns-clause-short c = short c.args.bytes.now c.load_record.result c.load_record.ensures

pub returns-clause-extra : goal.returns-clause-extra
returns-clause-extra c = extra c.args.bytes.now c.load_record.result c.load_record.ensures (λ i. omega (arith, c.type_inv.bytes i))

pub returns-clause-illegal : goal.returns-clause-illegal
returns-clause-illegal c = illegal c.args.bytes.now c.load_record.result c.load_record.ensures (λ i. omega (arith, c.type_inv.bytes i))

pub returns-clause-only_illegal : goal.returns-clause-only_illegal
returns-clause-only_illegal c = only_illegal c.args.bytes.now c.load_record.result c.load_record.ensures

pub returns-clause-memory : goal.returns-clause-memory
returns-clause-memory c = memory c.args.bytes.now c.load_record.result c.load_record.ensures (λ i. omega (arith, c.type_inv.bytes i))

pub returns-clause-why : goal.returns-clause-why
returns-clause-why c = why c.args.bytes.now c.load_record.result c.load_record.ensures (λ i. omega (arith, c.type_inv.bytes i))
