use Rattle.std.proofs.Common.{length}
use Rattle.bg_turns.proofs.judging.+part_in_order.Given as goal

abbrev pub decreases-part_in_order : goal.decreases-part_in_order
decreases-part_in_order l = length l.dice.now
