use Rattle.std.proofs.Common.{◌≡◌, ◌+◌, ◌++◌, map, length}
use Rattle.std.specs.List.{range_with_len}
use Rattle.bg_ids.specs.Xgids.{place_mark}
use Rattle.bg_ids.proofs.xgids.put_places.Given as goal

abbrev pub invariant-loop-place : goal.invariant-loop-place
invariant-loop-place l = record {
  bytes : l.text.bytes ≡ l.fn.text.bytes ++ map (place_mark l.board) (range_with_len 0 l.place);
  len : length l.text.bytes ≡ length l.fn.text.bytes + l.place;
}
