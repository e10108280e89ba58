use Rattle.std.proofs.Common.{◌≡◌, ◌++◌, take}
use Rattle.bg_picture.specs.ItemData.{counts_data}
use Rattle.bg_picture.proofs.item_data.put_counts.Given as goal

abbrev pub invariant-loop-count : goal.invariant-loop-count
invariant-loop-count l = l.out.items ≡ l.initial.out.items ++ counts_data (take l.count-index l.counts)
