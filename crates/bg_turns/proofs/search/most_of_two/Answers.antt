use Rattle.std.proofs.Common.{◌≡◌, ◌+◌, ◌-◌, ◌∷◌, [], max, refl, arith, w32}
use Rattle.std.specs.Int.{trailing_zeros}
use Rattle.bg_turns.specs.MoverCounts.{after}
use Rattle.bg_turns.proofs.Sides.{held_from_can}
use Rattle.bg_turns.proofs.Lists.OneDie.{IsMoverCounts-after}
use Rattle.bg_turns.proofs.Lists.Opened.{left_first, left_after, place_low, place_passed, start_low, fewer}
use Rattle.bg_turns.proofs.Deepest.{most_above_none, most_above_all, most_of_step, most_of_no_step, deepest_all, deepest_played}
use Rattle.bg_turns.proofs.search.most_of_two.Goals as goal

pub overflow_sub-from : goal.overflow_sub-from
overflow_sub-from c =
    let low = place_low _ _ _ c.loop-places.invariant.left c.loop-places-test.true (omega arith) in
    omega (arith, low)

pub overflow_sub-below : goal.overflow_sub-below
overflow_sub-below c = start_low _ _ _ c.loop-places.invariant.left c.loop-places-test.true (omega arith)

pub down-requires-clause-low : goal.down-requires-clause-low
down-requires-clause-low c = start_low _ _ _ c.loop-places.invariant.left c.loop-places-test.true (omega arith)

pub after-after-requires-clause-checker : goal.after-after-requires-clause-checker
after-after-requires-clause-checker c =
    rw c.down.ensures (held_from_can _ _ _ (place_passed _ _ _ c.loop-places.invariant.left c.loop-places-test.true (omega arith)))

pub can_step-requires-clause-mover : goal.can_step-requires-clause-mover
can_step-requires-clause-mover c =
    let low = start_low _ _ _ c.loop-places.invariant.left c.loop-places-test.true (omega arith) in
    let held = held_from_can _ _ _ (place_passed _ _ _ c.loop-places.invariant.left c.loop-places-test.true (omega arith)) in
    let from = 25 - trailing_zeros w32 c.loop-places.places in (
      after c.args.mover.now from (from - c.args.first),
      IsMoverCounts-after c.args.mover.now from (from - c.args.first) c.requires.mover (omega arith) (omega arith) held,
      rw c.down.ensures at c.after-after.ensures,
    )

pub loop-places-init : goal.loop-places-init
loop-places-init c = record {
  left = left_first c.args.mover.now c.args.first c.open-places.result (c.open-places.ensures c.args.mover.now c.requires.mover c.requires.masks);
  bounded = omega arith;
  most = λ b p s. most_above_none b p c.args.first (c.args.second ∷ []);
}

pub loop-places-smaller : goal.loop-places-smaller
loop-places-smaller c = fewer _ _ _ c.loop-places.invariant.left c.loop-places-test.true (omega arith)

pub returns-then-can_step-clause-most : goal.returns-then-can_step-clause-most
returns-then-can_step-clause-most c b p s =
    let low = start_low _ _ _ c.loop-places.invariant.left c.loop-places-test.true (omega arith) in
    let held = held_from_can _ _ _ (place_passed _ _ _ c.loop-places.invariant.left c.loop-places-test.true (omega arith)) in
    let from = 25 - trailing_zeros w32 c.loop-places.places in
    let is = IsMoverCounts-after c.args.mover.now from (from - c.args.first) c.requires.mover (omega arith) (omega arith) held in
    let next = rw c.down.ensures at c.after-after.ensures in
    let there = c.can_step.ensures (after c.args.mover.now from (from - c.args.first)) is next in
    deepest_all b p c.args.first (c.args.second ∷ []) c.args.mover.now s c.requires.first c.loop-places.below c.loop-places.places
    c.loop-places.invariant.left c.loop-places.most (c.loop-places.invariant.most b p s) c.loop-places-test.true (omega arith)
    _ 1 refl (λ b' st. most_of_step b' p c.args.second ((there b' p st).0 c.if-can_step.true)) refl

pub loop-places-preserved : goal.loop-places-preserved
loop-places-preserved c =
    let low = start_low _ _ _ c.loop-places.invariant.left c.loop-places-test.true (omega arith) in
    let held = held_from_can _ _ _ (place_passed _ _ _ c.loop-places.invariant.left c.loop-places-test.true (omega arith)) in
    let from = 25 - trailing_zeros w32 c.loop-places.places in
    let is = IsMoverCounts-after c.args.mover.now from (from - c.args.first) c.requires.mover (omega arith) (omega arith) held in
    let next = rw c.down.ensures at c.after-after.ensures in
    let there = c.can_step.ensures (after c.args.mover.now from (from - c.args.first)) is next in
    let few = c.loop-places.invariant.bounded in
    let one : max c.loop-places.most (1 + 0) ≡ 1 = omega arith in
    record {
      left = left_after _ _ _ c.loop-places.invariant.left c.loop-places-test.true (omega arith);
      bounded = omega arith;
      most = λ b p s. rw one at
          (deepest_played b p c.args.first (c.args.second ∷ []) c.args.mover.now s c.requires.first c.loop-places.below c.loop-places.places
          c.loop-places.invariant.left c.loop-places.most (c.loop-places.invariant.most b p s) c.loop-places-test.true (omega arith)
          _ 0 refl (λ b' st. most_of_no_step b' p c.args.second (λ can_step. let wrong = (there b' p st).1 can_step in let off = c.if-can_step.false in cc)));
    }

pub returns-clause-most : goal.returns-clause-most
returns-clause-most c b p s =
    most_above_all b p c.args.first (c.args.second ∷ []) c.args.mover.now s c.requires.first c.loop-places.below c.loop-places.places
    c.loop-places.invariant.left c.loop-places.most (c.loop-places.invariant.most b p s) c.loop-places-test.false
