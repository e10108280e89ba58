use Rattle.std.proofs.Common.{◌++◌, ◌∷◌, ◌-◌, ◌+◌, [], ◌∙◌, take, ap, refl, arith, w32}
use Rattle.std.specs.Int.{trailing_zeros}
use Rattle.bg_turns.specs.MoverCounts.{one_die, tree}
use Rattle.bg_turns.proofs.Lists.Growing.{add_leaf}
use Rattle.bg_turns.proofs.Lists.Opened.{left_first, left_after, listed_there, listed_all, none_by_die, place_low, place_passed, start_low, fewer}
use Rattle.bg_turns.proofs.listing.leaves.add_leaves_at.Goals as goal

pub loop-places-init : goal.loop-places-init
loop-places-init g c = record {
  left = λ r are. left_first r c.args.die c.args.places are;
  listed = λ r are. refl;
}

pub overflow_sub-from : goal.overflow_sub-from
overflow_sub-from g c =
    let some = c.requires.places in
    let low = place_low _ _ _ (c.loop-places.invariant.left some.0 some.1) c.loop-places-test.true (omega arith) in
    omega (arith, low)

pub down-requires-clause-low : goal.down-requires-clause-low
down-requires-clause-low g c =
    let some = c.requires.places in
    start_low _ _ _ (c.loop-places.invariant.left some.0 some.1) c.loop-places-test.true (omega arith)

pub loop-places-smaller : goal.loop-places-smaller
loop-places-smaller g c =
    let some = c.requires.places in
    fewer _ _ _ (c.loop-places.invariant.left some.0 some.1) c.loop-places-test.true (omega arith)

pub loop-places-preserved : goal.loop-places-preserved
loop-places-preserved g c = record {
  left = λ r are. left_after _ _ _ (c.loop-places.invariant.left r are) c.loop-places-test.true (omega arith);
  listed = λ r are.
      let left = c.loop-places.invariant.left r are in
      let some = c.loop-places-test.true in
      add_leaf r c.args.die (25 - trailing_zeros w32 c.loop-places.places) 1 g.row.PLAYED c.args.front c.loop-places.turns.items c.push.new.self.items _
      (start_low _ _ _ left some (omega arith))
      (listed_there _ _ _ left (one_die r c.args.die (tree c.args.die 0)) (none_by_die r c.args.die (tree c.args.die 0)) (take g.row.PLAYED c.args.front)
      c.loop-places.turns.items c.args.turns.now.items (c.loop-places.invariant.listed r are) some (omega arith))
      c.down.result (omega arith) (place_passed _ _ _ left some (omega arith)) c.down.ensures refl
      (c.in_ok-push.ensures.items ∙ ap (λ x. c.loop-places.turns.items ++ x ∷ []) (c.turn_of.ensures ∙ ap (λ xs. take (g.row.PLAYED + 1) xs) c.with_step-longer.ensures));
}

pub returns : goal.returns
returns g c r are =
    listed_all _ _ _ (c.loop-places.invariant.left r are) (one_die r c.args.die (tree c.args.die 0)) (none_by_die r c.args.die (tree c.args.die 0))
    (take g.row.PLAYED c.args.front) c.loop-places.turns.items c.args.turns.now.items (c.loop-places.invariant.listed r are) c.loop-places-test.false
