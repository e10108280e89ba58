-- What contracts see of a keeper in memory behind a fence.
use Rattle.std.specs.Prelude.{None, length}
use Rattle.bg_wire.specs.Saved.SlotLaws.{Slots}
use Rattle.bg_protocol.specs.Worlds.Views.{KeeperView}
use Rattle.bg_fences.specs.declared.fenced_memory_keepers.FencedMemoryKeeper.{FencedMemoryKeeper}

abbrev pub fenced_slots : FencedMemoryKeeper → Slots
fenced_slots keeper = keeper.slots

-- the keeper as a node sees it; no plan says which of its calls fail
abbrev pub fenced_view : FencedMemoryKeeper → KeeperView
fenced_view keeper = record {
  plan = None;
  slots = fenced_slots keeper;
  faults = length keeper.faults.bytes;
  writes = length keeper.writes.bytes;
  reads = length keeper.reads.bytes;
  written = keeper.written;
}
