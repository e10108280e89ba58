use Rattle.std.proofs.Common.{◌≡◌, ℕ, ◌+◌, ◌<◌}
use Rattle.bg_mat.specs.Turns.{leaving, coming}
use Rattle.bg_mat.proofs.movements.same_movement.Given as goal

abbrev pub invariant-loop-point : goal.invariant-loop-point
invariant-loop-point l =
    (k : ℕ) → k < l.point → leaving k l.written + coming k l.played ≡ leaving k l.played + coming k l.written
