use Rattle.std.proofs.Common.{◌≡◌, ◌+◌, ◌≤◌, ◌++◌, length, take, vec_capacity}
use Rattle.bg_wire.specs.Entries.EntryText.{entries_bytes}
use Rattle.bg_wire.proofs.saves.saving.push_entries.Given as goal

abbrev pub invariant-loop-index : goal.invariant-loop-index
invariant-loop-index l = record {
  text : l.text.items ++ l.chunk ≡ l.fn.text.items ++ entries_bytes (take l.index l.fn.log.entries);
  room : length l.chunk + 10 ≤ 256;
  capacity : vec_capacity l.fn.text ≤ vec_capacity l.text;
  end : l.index-end ≡ length l.fn.log.entries;
}
