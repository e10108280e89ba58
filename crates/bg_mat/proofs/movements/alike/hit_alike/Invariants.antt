use Rattle.std.proofs.Common.{◌≡◌, ℕ, ◌<◌}
use Rattle.bg_mat.specs.Turns.{is_hit}
use Rattle.bg_mat.proofs.movements.alike.hit_alike.Given as goal

abbrev pub invariant-loop-point : goal.invariant-loop-point
invariant-loop-point l = (k : ℕ) → k < l.point → is_hit l.board l.player l.one k ≡ is_hit l.board l.player l.other k
