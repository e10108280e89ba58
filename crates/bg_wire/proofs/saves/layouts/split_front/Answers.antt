use Rattle.std.proofs.Common.{ap, ◌∙◌, sym}
use Rattle.bg_wire.specs.Entries.Reading.{fault_at}
use Rattle.bg_wire.specs.Saved.SavedReading.{front_at}
use Rattle.bg_wire.proofs.OfSaves.SavedLaws.{front_fails, by_entries}
use Rattle.bg_wire.proofs.saves.layouts.split_front.Goals as goal

pub returns-in-Ok-clause-reads : goal.returns-in-Ok-clause-reads
returns-in-Ok-clause-reads c = by_entries c.args.bytes.now c.in-Ok.front c.read_front.new.reader (ap front_at (sym c.new-reader.ensures) ∙ c.in-Ok.ensures.reads)

pub returns-in-Err-clause-reads : goal.returns-in-Err-clause-reads
returns-in-Err-clause-reads c = rw (c.of.ensures, c.fault.ensures) (front_fails c.args.bytes.now (fault_at c.in-Err.fault c.read_front.new.reader.at) (ap front_at (sym c.new-reader.ensures) ∙ c.in-Err.ensures.reads))
