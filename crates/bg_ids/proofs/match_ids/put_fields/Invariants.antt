use Rattle.std.proofs.Common.{◌≡◌, ◌+◌, ◌++◌, take, length}
use Rattle.std.specs.List.{flat_map, sum_by}
use Rattle.bg_ids.specs.MatchIds.{width, field_bits}
use Rattle.bg_ids.proofs.match_ids.put_fields.Given as goal

abbrev pub invariant-loop-field : goal.invariant-loop-field
invariant-loop-field l = record {
  items : l.bits.items ≡ l.fn.bits.items ++ flat_map field_bits (take l.field-index l.fields);
  len : length l.bits.items ≡ length l.fn.bits.items + sum_by width (take l.field-index l.fields);
}
