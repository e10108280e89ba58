use Rattle.std.proofs.Common.{length}
use Rattle.bg_turns.proofs.judging.+play_all.Given as goal

abbrev pub decreases-play_all : goal.decreases-play_all
decreases-play_all l = length l.steps.now
