use Rattle.std.proofs.Common.{ℕ, ◌≡◌, ◌<◌, ◌≤◌, get_or}
use Rattle.bg_turns.proofs.mover_counts.MoverCounts.highest.Given as goal

abbrev pub invariant-loop-point : goal.invariant-loop-point
invariant-loop-point l = record {
  within : l.point ≤ 25;
  none : (k : ℕ) → l.point < k → get_or l.self.own k 0 ≡ 0;
}

abbrev pub decreases-loop-point : goal.decreases-loop-point
decreases-loop-point l = l.point
