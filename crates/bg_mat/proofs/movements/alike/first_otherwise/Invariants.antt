use Rattle.std.proofs.Common.{ℕ, ◌<◌, List, slice_index_or}
use Rattle.bg_board.specs.FromTo.{FromTo}
use Rattle.bg_mat.specs.FirstTurns.{HitsOtherwise}
use Rattle.bg_mat.proofs.movements.alike.first_otherwise.Given as goal

abbrev pub invariant-loop-turn : goal.invariant-loop-turn
invariant-loop-turn l =
    (k : ℕ) (d : List FromTo) → k < l.turn-index
    → HitsOtherwise l.board l.player l.written l.steps (slice_index_or l.turns k d) → ⊥
