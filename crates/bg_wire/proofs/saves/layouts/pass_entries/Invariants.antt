use Rattle.std.proofs.Common.{◌≡◌, ◌-◌}
use Rattle.bg_wire.specs.Entries.Reading.{many_at}
use Rattle.bg_wire.proofs.Many.{passed_of}
use Rattle.bg_wire.specs.Entries.EntryReading.{entry_at}
use Rattle.bg_wire.proofs.saves.layouts.pass_entries.Given as goal

abbrev pub invariant-loop : goal.invariant-loop
invariant-loop l = passed_of (many_at (entry_at l.layout) (l.count - l.counter) l.reader) ≡ passed_of (many_at (entry_at l.layout) l.count l.fn.reader)
