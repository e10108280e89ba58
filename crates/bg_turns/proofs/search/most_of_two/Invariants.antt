use Rattle.std.proofs.Common.{◌≤◌, ◌∷◌, []}
use Rattle.bg_board.specs.Position.{Position}
use Rattle.bg_board.specs.declared.players.Player.{Player}
use Rattle.bg_turns.specs.MoverCounts.{Stands}
use Rattle.bg_turns.proofs.Lists.Opened.{IsLeft, CanFrom}
use Rattle.bg_turns.proofs.Deepest.{IsMostAbove}
use Rattle.bg_turns.proofs.search.most_of_two.Given as goal

abbrev pub invariant-loop-places : goal.invariant-loop-places
invariant-loop-places l = record {
  left : IsLeft (CanFrom l.mover l.first) l.below l.places;
  bounded : l.most ≤ 1;
  most : (b : Position) (p : Player) → Stands l.mover b p → IsMostAbove b p (l.first ∷ l.second ∷ []) l.below l.most;
}

abbrev pub decreases-loop-places : goal.decreases-loop-places
decreases-loop-places l = l.below
