use Rattle.std.proofs.Common.{◌≡◌, ◌-◌, take}
use Rattle.bg_turns.specs.MoverCounts.{one_die, tree}
use Rattle.bg_turns.proofs.Lists.Opened.{IsLeft, CanFrom, IsListed}
use Rattle.bg_turns.proofs.listing.trees.+add_tree.Given as goal

abbrev pub decreases-add_tree : goal.decreases-add_tree
decreases-add_tree l = l.left

abbrev pub invariant-loop-places : goal.invariant-loop-places
invariant-loop-places l = record {
  left : IsLeft (CanFrom l.fn.mover l.die) l.below l.places;
  listed : IsListed (one_die l.fn.mover l.die (tree l.die (l.left - 1))) (take l.played l.front) l.below l.turns.items l.fn.turns.items;
  mover : l.mover ≡ l.fn.mover;
}

abbrev pub decreases-loop-places : goal.decreases-loop-places
decreases-loop-places l = l.below
