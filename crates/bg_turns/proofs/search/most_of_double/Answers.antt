use Rattle.std.proofs.Common.{◌≡◌, ◌-◌, arith, w32}
use Rattle.std.specs.Int.{trailing_zeros}
use Rattle.bg_turns.proofs.Sides.{held_from_can}
use Rattle.bg_turns.proofs.Lists.Opened.{left_first, place_low, place_passed, start_low}
use Rattle.bg_turns.proofs.Exchanged.{most_by_reach, follow_where, reach_ends, few_steps}
use Rattle.bg_turns.proofs.search.most_of_double.Goals as goal

pub overflow_sub-places : goal.overflow_sub-places
overflow_sub-places c =
    let left = left_first c.loop-most.mover c.args.die c.open-places.result (c.open-places.ensures c.loop-most.mover c.loop-most.invariant.mover c.loop-most.invariant.masks) in
    let low = place_low _ _ _ left c.if-places-eq0.false (omega arith) in
    omega (arith, low)

pub down-step-requires-clause-low : goal.down-step-requires-clause-low
down-step-requires-clause-low c =
    let left = left_first c.loop-most.mover c.args.die c.open-places.result (c.open-places.ensures c.loop-most.mover c.loop-most.invariant.mover c.loop-most.invariant.masks) in
    start_low _ _ _ left c.if-places-eq0.false (omega arith)

pub after-masks-requires-clause-checker : goal.after-masks-requires-clause-checker
after-masks-requires-clause-checker c =
    let left = left_first c.loop-most.mover c.args.die c.open-places.result (c.open-places.ensures c.loop-most.mover c.loop-most.invariant.mover c.loop-most.invariant.masks) in
    rw c.down-step.ensures (held_from_can _ _ _ (place_passed _ _ _ left c.if-places-eq0.false (omega arith)))

pub play-requires-clause-checker : goal.play-requires-clause-checker
play-requires-clause-checker c =
    let left = left_first c.loop-most.mover c.args.die c.open-places.result (c.open-places.ensures c.loop-most.mover c.loop-most.invariant.mover c.loop-most.invariant.masks) in
    rw c.down-step.ensures (held_from_can _ _ _ (place_passed _ _ _ left c.if-places-eq0.false (omega arith)))

pub loop-most-preserved : goal.loop-most-preserved
loop-most-preserved c =
    let left = left_first c.loop-most.mover c.args.die c.open-places.result (c.open-places.ensures c.loop-most.mover c.loop-most.invariant.mover c.loop-most.invariant.masks) in
    let passed = place_passed _ _ _ left c.if-places-eq0.false (omega arith) in
    let low = place_low _ _ _ left c.if-places-eq0.false (omega arith) in
    record {
      mover = c.play.ensures.mover;
      masks = rw c.play.ensures.value c.after-masks.ensures;
      few = omega arith;
      follow = λ n. rw (c.play.ensures.value, c.down-step.ensures)
          (follow_where c.args.die c.requires.die c.loop-most.mover c.loop-most.invariant.mover (25 - trailing_zeros w32 c.open-places.result)
          (omega arith) (omega arith) passed c.args.mover c.loop-most.most c.loop-most.invariant.follow n);
    }

pub returns-then-places-eq0-clause-most : goal.returns-then-places-eq0-clause-most
returns-then-places-eq0-clause-most c b p s =
    let places = c.open-places.ensures c.loop-most.mover c.loop-most.invariant.mover c.loop-most.invariant.masks in
    reach_ends c.args.die c.requires.die c.loop-most.mover c.open-places.result places c.if-places-eq0.true
    c.args.mover c.loop-most.most c.loop-most.invariant.follow c.loop-most.invariant.few b p s

pub returns-clause-most : goal.returns-clause-most
returns-clause-most c b p s =
    let four : c.loop-most.most ≡ 4 = (let few = c.loop-most.invariant.few in omega arith) in
    let reached = rw four at ((c.loop-most.invariant.follow 0).0 tt) in
    rw four (most_by_reach c.args.die c.requires.die 4 4 (omega arith) c.args.mover b p s reached
    (λ steps played there. few_steps 4 c.args.die b p steps played))
