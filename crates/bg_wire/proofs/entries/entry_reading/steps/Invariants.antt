use Rattle.std.proofs.Common.{◌≡◌, ◌-◌, length}
use Rattle.bg_wire.specs.Entries.Reading.{many_at}
use Rattle.bg_wire.specs.Entries.EntryReading.{step_at}
use Rattle.bg_wire.proofs.Many.{with_front}
use Rattle.bg_wire.proofs.entries.entry_reading.steps.Given as goal

abbrev pub invariant-loop : goal.invariant-loop
invariant-loop l = record {
  read : with_front l.turn (many_at step_at (l.count - l.counter) l.reader) ≡ many_at step_at l.count l.fn.reader;
  len : length l.turn ≡ l.counter;
}
