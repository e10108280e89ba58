use Rattle.std.proofs.Common.{ℕ, ◌↔◌, ◌+◌, ◌-◌, ◌≤◌}
use Rattle.bg_turns.specs.MoverCounts.{IsMoverCounts}
use Rattle.bg_turns.specs.Masks.{AreMasks}
use Rattle.bg_turns.proofs.Exchanged.{Reaches}
use Rattle.bg_turns.proofs.search.most_of_double.Given as goal

abbrev pub invariant-loop-most : goal.invariant-loop-most
invariant-loop-most l = record {
  mover : IsMoverCounts l.mover;
  masks : AreMasks l.masks l.mover;
  few : l.most ≤ 4;
  follow : (n : ℕ) → Reaches l.die l.mover n ↔ Reaches l.die l.fn.mover (n + l.most);
}

abbrev pub decreases-loop-most : goal.decreases-loop-most
decreases-loop-most l = 4 - l.most
