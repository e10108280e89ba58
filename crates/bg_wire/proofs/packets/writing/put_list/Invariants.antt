use Rattle.std.proofs.Common.{◌≡◌, ◌+◌, ◌*◌, ◌++◌, ◌∷◌, ◌≤◌, length, take}
use Rattle.std.specs.List.{flat_map}
use Rattle.bg_wire.specs.Entries.EntryText.{entry_bytes}
use Rattle.bg_wire.proofs.packets.writing.put_list.Given as goal

abbrev pub invariant-loop-entry : goal.invariant-loop-entry
invariant-loop-entry l = record {
  text : l.out ≡ l.fn.out ++ length l.entries ∷ flat_map entry_bytes (take l.entry-index l.entries);
  len : length l.out ≤ length l.fn.out + 1 + 10 * l.entry-index;
}
