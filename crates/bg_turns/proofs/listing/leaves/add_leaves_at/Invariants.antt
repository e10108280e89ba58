use Rattle.std.proofs.Common.{take}
use Rattle.bg_turns.specs.declared.mover_counts.MoverCounts.{MoverCounts}
use Rattle.bg_turns.specs.MoverCounts.{one_die, tree}
use Rattle.bg_turns.specs.Masks.{ArePlaces}
use Rattle.bg_turns.proofs.Lists.Opened.{IsLeft, CanFrom, IsListed}
use Rattle.bg_turns.proofs.listing.leaves.add_leaves_at.Given as goal

abbrev pub invariant-loop-places : goal.invariant-loop-places
invariant-loop-places g l = record {
  left : (r : MoverCounts) → ArePlaces l.fn.places r l.die → IsLeft (CanFrom r l.die) l.below l.places;
  listed : (r : MoverCounts) → ArePlaces l.fn.places r l.die
      → IsListed (one_die r l.die (tree l.die 0)) (take g.row.PLAYED l.front) l.below l.turns.items l.fn.turns.items;
}

abbrev pub decreases-loop-places : goal.decreases-loop-places
decreases-loop-places g l = l.below
