use Rattle.std.proofs.Common.{rules}
use Rattle.bg_turns.specs.MoverCounts.{is_off}
use Rattle.bg_turns.proofs.mover_counts.MoverCounts.is_off.Goals as goal

pub returns : goal.returns
unfolding is_off
returns c = search rules
