use Rattle.bg_wire.specs.declared.saves.layouts.Layout.TheVariants.{Two}
use Rattle.std.proofs.Common.{◌≡◌, ◌-◌, length}
use Rattle.bg_wire.specs.Entries.Reading.{many_at}
use Rattle.bg_wire.specs.Entries.EntryReading.{entry_at}
use Rattle.bg_wire.proofs.Many.{with_front}
use Rattle.bg_wire.proofs.packets.layout.list_of.Given as goal

abbrev pub invariant-loop : goal.invariant-loop
invariant-loop l = record {
  read : with_front l.entries.items (many_at (entry_at Two) (l.count - l.counter) l.reader) ≡ many_at (entry_at Two) l.count l.fn.reader;
  len : length l.entries.items ≡ l.counter;
}
