use Rattle.std.proofs.Common.{◌≡◌, length, take, vec_capacity}
use Rattle.bg_match.proofs.records.Record.copy.Given as goal

abbrev pub invariant-loop-entry : goal.invariant-loop-entry
invariant-loop-entry l = record {
  copied : l.made.items ≡ take l.entry-index l.entry-items;
  room : vec_capacity l.made ≡ length l.entry-items;
}
