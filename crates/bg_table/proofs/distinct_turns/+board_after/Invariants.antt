use Rattle.std.proofs.Common.{length}
use Rattle.bg_table.proofs.distinct_turns.+board_after.Given as goal

abbrev pub decreases-board_after : goal.decreases-board_after
decreases-board_after l = length l.steps.now
