use Rattle.std.proofs.Common.{◌≡◌, ◌-◌, take}
use Rattle.bg_turns.specs.MoverCounts.{tree, pairs, two_dice}
use Rattle.bg_turns.proofs.Lists.Opened.{IsLeft, CanFromEither, IsListed}
use Rattle.bg_turns.proofs.listing.pairs.+add_pairs.Given as goal

abbrev pub decreases-add_pairs : goal.decreases-add_pairs
decreases-add_pairs l = l.left

abbrev pub invariant-loop-places : goal.invariant-loop-places
invariant-loop-places l =
    let shorter = l.left - 1 in
    record {
      left : IsLeft (CanFromEither l.fn.mover l.small l.large) l.below l.places;
      listed : IsListed (two_dice l.fn.mover l.small l.large (pairs l.small l.large shorter) (tree l.large shorter) (tree l.small shorter))
          (take l.played l.front) l.below l.turns.items l.fn.turns.items;
      mover : l.mover ≡ l.fn.mover;
    }

abbrev pub decreases-loop-places : goal.decreases-loop-places
decreases-loop-places l = l.below
