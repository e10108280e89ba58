use Rattle.std.proofs.Common.{◌≡◌, ℕ, ◌<◌}
use Rattle.bg_mat.specs.Turns.{is_marked, is_hit}
use Rattle.bg_typed.proofs.marks.same_hits.Given as goal

abbrev pub invariant-loop-point : goal.invariant-loop-point
invariant-loop-point l = (k : ℕ) → k < l.point → is_marked k l.legs ≡ is_hit l.board l.player l.steps k
