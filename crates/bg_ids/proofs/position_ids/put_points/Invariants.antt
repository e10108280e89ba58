use Rattle.std.proofs.Common.{◌≡◌, ◌+◌, ◌++◌, take, sum, length}
use Rattle.std.specs.List.{flat_map}
use Rattle.bg_ids.specs.PositionIds.{point_bits}
use Rattle.bg_ids.proofs.position_ids.put_points.Given as goal

abbrev pub invariant-loop-count : goal.invariant-loop-count
invariant-loop-count l = record {
  items : l.bits.items ≡ l.fn.bits.items ++ flat_map point_bits (take l.count-index l.counts);
  len : length l.bits.items ≡ length l.fn.bits.items + l.count-index + sum (take l.count-index l.counts);
}
