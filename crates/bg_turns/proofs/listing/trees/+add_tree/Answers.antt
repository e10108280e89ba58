use Rattle.std.proofs.Common.{◌≡◌, ◌∙◌, ◌++◌, ◌∷◌, ◌-◌, ◌<◌, [], take, get_or, inl, inr, refl, sym, ap, arith, w32}
use Rattle.std.specs.Int.{trailing_zeros}
use Rattle.bg_turns.specs.MoverCounts.{one_die, tree, after, behind}
use Rattle.bg_turns.proofs.Lists.OneDie.{IsMoverCounts-after, tree-end, tree-at}
use Rattle.bg_turns.proofs.Lists.Growing.{behind-empty, add_branch}
use Rattle.bg_turns.proofs.Lists.Opened.{left_first, left_after, listed_there, listed_all, none_by_die, place_low, place_passed, start_low, fewer}
use Rattle.bg_turns.proofs.Sides.{held_from_can}
use Rattle.bg_turns.proofs.listing.trees.+add_tree.Goals as goal
use Rattle.bg_turns.proofs.listing.trees.+add_tree.Goals.{then-left-eq0-via-then-left-eq0, then-left-eq0-via-else-left-eq0+then-is_off, then-left-eq2+in_ok-add_last, else-left-eq2+in_ok-add_tree}

pub returns-then-left-eq0-clause-lists : goal.returns-then-left-eq0-clause-lists
returns-then-left-eq0-clause-lists t c =
    let last : tree c.args.die c.args.left c.args.mover.now ≡ [] ∷ [] = elim c.then-left-eq0.branch [
      | then-left-eq0-via-then-left-eq0 w ↦ tree-end _ _ _ (inl w.if-left-eq0.true)
      | then-left-eq0-via-else-left-eq0+then-is_off w ↦
          tree-end _ _ _ (inr (sym (w.is_off.ensures c.args.mover.now c.requires.mover c.requires.masks) ∙ w.if-is_off.true))
    ] in
    c.in_ok-push.ensures.items
    ∙ ap (λ xs. c.args.turns.now.items ++ xs)
    (ap (λ x. x ∷ []) c.turn_of.ensures ∙ (sym (behind-empty (take c.args.played c.args.front))
    ∙ ap (λ xs. behind (take c.args.played c.args.front) xs) (sym last)))

pub returns-then-left-eq1-clause-lists : goal.returns-then-left-eq1-clause-lists
returns-then-left-eq1-clause-lists t c = rw c.if-left-eq1.true (c.add_last.ensures c.args.mover.now c.requires.mover c.requires.masks)

pub add_last-requires-clause-mover : goal.add_last-requires-clause-mover
add_last-requires-clause-mover t c = (c.args.mover.now, c.requires.mover, c.requires.masks)

pub loop-places-init : goal.loop-places-init
loop-places-init t c = record {
  left = left_first c.args.mover.now c.args.die c.open-places.result (c.open-places.ensures c.args.mover.now c.requires.mover c.requires.masks);
  listed = refl;
  mover = refl;
}

pub overflow_sub-from : goal.overflow_sub-from
overflow_sub-from t c =
    let low = place_low _ _ _ c.loop-places.invariant.left c.loop-places-test.true (omega arith) in
    omega (arith, low)

pub down-step-requires-clause-low : goal.down-step-requires-clause-low
down-step-requires-clause-low t c = start_low _ _ _ c.loop-places.invariant.left c.loop-places-test.true (omega arith)

pub after-next-requires-clause-checker : goal.after-next-requires-clause-checker
after-next-requires-clause-checker t c =
    rw (c.loop-places.invariant.mover, c.down-step.ensures)
    (held_from_can _ _ _ (place_passed _ _ _ c.loop-places.invariant.left c.loop-places-test.true (omega arith)))

pub add_last-requires-then-left-eq2-clause-mover : goal.add_last-requires-then-left-eq2-clause-mover
add_last-requires-then-left-eq2-clause-mover t c =
    let held = held_from_can _ _ _ (place_passed _ _ _ c.loop-places.invariant.left c.loop-places-test.true (omega arith)) in (
      after c.args.mover.now c.down-step.result.from c.down-step.result.to,
      IsMoverCounts-after _ _ _ c.requires.mover (omega arith) (omega arith) (rw c.down-step.ensures held),
      rw c.loop-places.invariant.mover at c.after-next.ensures,
    )

pub play-requires-clause-checker : goal.play-requires-clause-checker
play-requires-clause-checker t c =
    rw (c.loop-places.invariant.mover, c.down-step.ensures)
    (held_from_can _ _ _ (place_passed _ _ _ c.loop-places.invariant.left c.loop-places-test.true (omega arith)))

pub loop-places-smaller : goal.loop-places-smaller
loop-places-smaller t c = fewer _ _ _ c.loop-places.invariant.left c.loop-places-test.true (omega arith)

pub loop-places-preserved : goal.loop-places-preserved
loop-places-preserved t c =
    let r = c.args.mover.now in
    let left = c.loop-places.invariant.left in
    let some = c.loop-places-test.true in
    let from = 25 - trailing_zeros w32 c.loop-places.places in
    let passed = place_passed _ _ _ left some (omega arith) in
    let there = listed_there _ _ _ left (one_die r c.args.die (tree c.args.die (c.args.left - 1)))
    (none_by_die r c.args.die (tree c.args.die (c.args.left - 1))) (take c.args.played c.args.front)
    c.loop-places.turns.items c.args.turns.now.items c.loop-places.invariant.listed some (omega arith) in
    let same = c.loop-places.invariant.mover in
    let step = c.down-step.result in
    let held : 0 < get_or r.own step.from 0 = rw c.down-step.ensures (held_from_can _ _ _ passed) in
    record {
      left = left_after _ _ _ left some (omega arith);
      mover = elim c.if-left-eq2.branch [
        | then-left-eq2+in_ok-add_last w ↦ w.mover-is ∙ same
        | else-left-eq2+in_ok-add_tree w ↦
            w.mover-is ∙ w.take_back.ensures r c.requires.mover held (w.in_ok-add_tree.ensures.mover ∙ rw same at w.play.ensures.value)
      ];
      listed = add_branch r c.args.die from c.args.left c.args.played c.args.front c.loop-places.turns.items c.if-left-eq2.turns.items _
          (start_low _ _ _ left some (omega arith)) there
          step (omega arith) passed c.down-step.ensures
          (elim c.if-left-eq2.branch [
            | then-left-eq2+in_ok-add_last w ↦
                let one : c.args.left - 1 ≡ 1 = (let two = w.if-left-eq2.true in omega arith) in
                let is = IsMoverCounts-after r step.from step.to c.requires.mover (omega arith) (omega arith) held in
                let next = rw same at c.after-next.ensures in
                ap (λ v. v.items) w.turns-is ∙ rw (one, ← c.with_step-longer.ensures) (w.in_ok-add_last.ensures (after r step.from step.to) is next)
            | else-left-eq2+in_ok-add_tree w ↦
                ap (λ v. v.items) w.turns-is ∙ rw (c.with_step-longer.ensures, w.play.ensures.value, same) at w.in_ok-add_tree.ensures.lists
          ]);
    }

pub returns-clause-lists : goal.returns-clause-lists
returns-clause-lists t c =
    let on = sym (c.is_off.ensures c.args.mover.now c.requires.mover c.requires.masks) ∙ c.if-is_off.false in
    listed_all _ _ _ c.loop-places.invariant.left (one_die c.args.mover.now c.args.die (tree c.args.die (c.args.left - 1)))
    (none_by_die c.args.mover.now c.args.die (tree c.args.die (c.args.left - 1))) (take c.args.played c.args.front)
    c.loop-places.turns.items c.args.turns.now.items c.loop-places.invariant.listed c.loop-places-test.false
    ∙ ap (λ xs. c.args.turns.now.items ++ behind (take c.args.played c.args.front) xs)
    (sym (tree-at c.args.die c.args.left c.args.mover.now c.if-left-eq0.false on))
