use Rattle.std.proofs.Common.{◌≡◌, ◌-◌, length}
use Rattle.bg_match.specs.Match.{IsLegalRecord}
use Rattle.bg_wire.specs.Entries.Reading.{many_at}
use Rattle.bg_wire.specs.Entries.EntryReading.{entry_at}
use Rattle.bg_wire.proofs.Many.{with_front}
use Rattle.bg_wire.proofs.saves.saving.replay.Given as goal

abbrev pub invariant-loop-done : goal.invariant-loop-done
invariant-loop-done l = record {
  read : with_front l.log.entries (many_at (entry_at l.layout) (l.count - l.done) l.reader)
      ≡ many_at (entry_at l.layout) l.count l.fn.reader;
  len : length l.log.entries ≡ l.done;
  same : l.log ≡ record l.fn.log { entries = l.log.entries; spare = l.log.spare };
  legal : IsLegalRecord l.fn.log.terms l.log.entries;
}
