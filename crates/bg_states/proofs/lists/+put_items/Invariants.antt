use Rattle.std.proofs.Common.{length}
use Rattle.bg_states.proofs.lists.+put_items.Given as goal

abbrev pub decreases-put_items : goal.decreases-put_items
decreases-put_items l = length l.numbers.now
