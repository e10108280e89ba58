use Rattle.std.proofs.Common.{◌≤◌, ◌+◌, length, max, take}
use Rattle.bg_party.specs.Window.{window_size, KeepsFrom}
use Rattle.bg_party.proofs.window.Window.keep.Given as goal

abbrev pub invariant-loop-index : goal.invariant-loop-index
invariant-loop-index l = record {
  kept : KeepsFrom l.fn.self l.first (take l.index l.list) l.self;
  reach : length l.self ≤ max (length l.fn.self) (l.first + l.index);
  few : length l.self ≤ window_size;
}
