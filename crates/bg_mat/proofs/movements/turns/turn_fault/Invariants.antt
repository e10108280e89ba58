use Rattle.std.proofs.Common.{ℕ, ◌<◌, List, slice_index_or}
use Rattle.bg_board.specs.FromTo.{FromTo}
use Rattle.bg_mat.specs.Turns.{SameMovement, steps_of}
use Rattle.bg_mat.proofs.movements.turns.turn_fault.Given as goal

abbrev pub invariant-loop-turn : goal.invariant-loop-turn
invariant-loop-turn l =
    (k : ℕ) (d : List FromTo) → k < l.turn-index → SameMovement (steps_of l.legs) (slice_index_or l.turn-items k d) → ⊥
