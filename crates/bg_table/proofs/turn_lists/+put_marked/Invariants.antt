use Rattle.std.proofs.Common.{length}
use Rattle.bg_table.proofs.turn_lists.+put_marked.Given as goal

abbrev pub decreases-put_marked : goal.decreases-put_marked
decreases-put_marked l = length l.steps.now
