use Rattle.std.proofs.Common.{◌≡◌, ◌<◌, ◌∙◌, ◌++◌, ◌∷◌, ◌-◌, [], take, get_or, inl, inr, ◌⊎◌, false, refl, sym, ap, arith, w32}
use Rattle.std.specs.Int.{trailing_zeros}
use Rattle.std.proofs.lemmas.Bool.{false_from_ne_true}
use Rattle.bg_turns.specs.MoverCounts.{can, tree, pairs, one_die, two_dice, behind}
use Rattle.bg_turns.proofs.Sides.{held_from_can}
use Rattle.bg_turns.proofs.Lists.TwoDice.{pairs-end, pairs-at, two_dice-both, two_dice-apart}
use Rattle.bg_turns.proofs.Lists.Growing.{grown, behind-empty, step_lists, two_parts}
use Rattle.bg_turns.proofs.Lists.Opened.{either_first, left_after, listed_there, listed_all, none_by_either, place_low, start_low, fewer}
use Rattle.bg_turns.proofs.listing.pairs.+add_pairs.Goals as goal
use Rattle.bg_turns.proofs.listing.pairs.+add_pairs.Goals.{then-left-eq0-via-then-left-eq0, then-left-eq0-via-else-left-eq0+then-is_off, then-from-small+then-holds+then-holds-2+in_ok-add_pairs, else-from-small+in_ok-add_step+in_ok-add_step-2, else-from-small-via-then-from-small+then-holds+else-holds-2, else-from-small-via-then-from-small+else-holds, else-from-small-via-else-from-small}

pub returns-then-left-eq0-clause-lists : goal.returns-then-left-eq0-clause-lists
returns-then-left-eq0-clause-lists t c =
    let last : pairs c.args.small c.args.large c.args.left c.args.mover.now ≡ [] ∷ [] = elim c.then-left-eq0.branch [
      | then-left-eq0-via-then-left-eq0 w ↦ pairs-end _ _ _ _ (inl w.if-left-eq0.true)
      | then-left-eq0-via-else-left-eq0+then-is_off w ↦
          pairs-end _ _ _ _ (inr (sym (w.is_off.ensures c.args.mover.now c.requires.mover c.requires.masks) ∙ w.if-is_off.true))
    ] in
    c.in_ok-push.ensures.items
    ∙ ap (λ xs. c.args.turns.now.items ++ xs)
    (ap (λ x. x ∷ []) c.turn_of.ensures ∙ (sym (behind-empty (take c.args.played c.args.front))
    ∙ ap (λ xs. behind (take c.args.played c.args.front) xs) (sym last)))

pub loop-places-init : goal.loop-places-init
loop-places-init t c = record {
  left = either_first c.args.mover.now c.args.small c.args.large c.open-by_small.result c.open-by_large.result
      (c.open-by_small.ensures c.args.mover.now c.requires.mover c.requires.masks)
      (c.open-by_large.ensures c.args.mover.now c.requires.mover c.requires.masks);
  listed = refl;
  mover = refl;
}

pub overflow_sub-from : goal.overflow_sub-from
overflow_sub-from t c =
    let low = place_low _ _ _ c.loop-places.invariant.left c.loop-places-test.true (omega arith) in
    omega (arith, low)

pub overflow_sub-below : goal.overflow_sub-below
overflow_sub-below t c = start_low _ _ _ c.loop-places.invariant.left c.loop-places-test.true (omega arith)

pub add_step-requires-clause-place : goal.add_step-requires-clause-place
add_step-requires-clause-place t c = place_low _ _ _ c.loop-places.invariant.left c.loop-places-test.true (omega arith)

pub add_step-requires-else-from-small-clause-place : goal.add_step-requires-else-from-small-clause-place
add_step-requires-else-from-small-clause-place t c = place_low _ _ _ c.loop-places.invariant.left c.loop-places-test.true (omega arith)

pub after-next-requires-clause-checker : goal.after-next-requires-clause-checker
after-next-requires-clause-checker t c =
    let low = place_low _ _ _ c.loop-places.invariant.left c.loop-places-test.true (omega arith) in
    let are = c.open-by_small.ensures c.args.mover.now c.requires.mover c.requires.masks in
    rw (c.loop-places.invariant.mover, c.down-step.ensures) (held_from_can _ _ _ ((are.each _ low).0 (c.if-holds.ensures.0 refl)))

pub play-requires-clause-checker : goal.play-requires-clause-checker
play-requires-clause-checker t c =
    let low = place_low _ _ _ c.loop-places.invariant.left c.loop-places-test.true (omega arith) in
    let are = c.open-by_small.ensures c.args.mover.now c.requires.mover c.requires.masks in
    rw (c.loop-places.invariant.mover, c.down-step.ensures) (held_from_can _ _ _ ((are.each _ low).0 (c.if-holds.ensures.0 refl)))

pub loop-places-smaller : goal.loop-places-smaller
loop-places-smaller t c = fewer _ _ _ c.loop-places.invariant.left c.loop-places-test.true (omega arith)

pub loop-places-preserved : goal.loop-places-preserved
loop-places-preserved t c =
    let r = c.args.mover.now in
    let left = c.loop-places.invariant.left in
    let some = c.loop-places-test.true in
    let low = place_low _ _ _ left some (omega arith) in
    let from = 25 - trailing_zeros w32 c.loop-places.places in
    let start = start_low _ _ _ left some (omega arith) in
    let front = take c.args.played c.args.front in
    let both = pairs c.args.small c.args.large (c.args.left - 1) in
    let after_small = tree c.args.large (c.args.left - 1) in
    let after_large = tree c.args.small (c.args.left - 1) in
    let by_small = c.open-by_small.ensures r c.requires.mover c.requires.masks in
    let by_large = c.open-by_large.ensures r c.requires.mover c.requires.masks in
    let there = listed_there _ _ _ left (two_dice r c.args.small c.args.large both after_small after_large)
    (none_by_either r c.args.small c.args.large both after_small after_large) front c.loop-places.turns.items c.args.turns.now.items
    c.loop-places.invariant.listed some (omega arith) in
    let same = c.loop-places.invariant.mover in
    record {
      left = left_after _ _ _ left some (omega arith);
      mover = elim c.if-from-small.branch [
        | then-from-small+then-holds+then-holds-2+in_ok-add_pairs w ↦
            let held : 0 < get_or r.own w.down-step.result.from 0 = rw w.down-step.ensures (held_from_can _ _ _ ((by_small.each _ low).0 (w.if-holds.ensures.0 refl))) in
            w.mover-is ∙ w.take_back.ensures r c.requires.mover held (w.in_ok-add_pairs.ensures.mover ∙ rw same at w.play.ensures.value)
        | else-from-small+in_ok-add_step+in_ok-add_step-2 w ↦
            w.mover-is ∙ (w.in_ok-add_step-2.ensures.mover ∙ (w.in_ok-add_step.ensures.mover ∙ same))
      ];
      listed = elim c.if-from-small.branch [
        | then-from-small+then-holds+then-holds-2+in_ok-add_pairs w ↦
            grown (two_dice r c.args.small c.args.large both after_small after_large) from front c.loop-places.turns.items c.if-from-small.turns.items _ start
            (step_lists r c.args.small from c.args.played both c.args.front c.loop-places.turns.items c.if-from-small.turns.items
            w.down-step.result both _ (omega arith)
            (two_dice-both r c.args.small c.args.large both after_small after_large from
            ((by_small.each _ low).0 (w.if-holds.ensures.0 refl)) ((by_large.each _ low).0 (w.if-holds-2.ensures.0 refl)) w.if-from-small.true)
            w.down-step.ensures
            (ap (λ v. v.items) w.turns-is ∙ rw (w.with_step-longer.ensures, w.play.ensures.value, same) at w.in_ok-add_pairs.ensures.lists))
            there
        | else-from-small+in_ok-add_step+in_ok-add_step-2 w ↦
            let apart : (can r from c.args.small ≡ false) ⊎ ((can r from c.args.large ≡ false) ⊎ (c.args.small < from)) = elim w.else-from-small.branch [
              | else-from-small-via-then-from-small+then-holds+else-holds-2 w' ↦
                  inr (inl (false_from_ne_true (can r from c.args.large) (λ passed. let wrong = w'.if-holds-2.ensures.1 ((by_large.each _ low).1 passed) in cc)))
              | else-from-small-via-then-from-small+else-holds w' ↦
                  inl (false_from_ne_true (can r from c.args.small) (λ passed. let wrong = w'.if-holds.ensures.1 ((by_small.each _ low).1 passed) in cc))
              | else-from-small-via-else-from-small w' ↦ inr (inr w'.if-from-small.false)
            ] in
            grown (two_dice r c.args.small c.args.large both after_small after_large) from front c.loop-places.turns.items c.if-from-small.turns.items _ start
            (two_parts front (one_die r c.args.small after_small from) (one_die r c.args.large after_large from)
            c.loop-places.turns.items w.add_step.new.turns.items c.if-from-small.turns.items
            (rw same at w.in_ok-add_step.ensures.lists) (ap (λ v. v.items) w.turns-is ∙ rw (w.in_ok-add_step.ensures.mover, same) at w.in_ok-add_step-2.ensures.lists)
            ∙ ap (λ xs. c.loop-places.turns.items ++ behind front xs)
            (sym (two_dice-apart r c.args.small c.args.large both after_small after_large from apart)))
            there
      ];
    }

pub returns-clause-lists : goal.returns-clause-lists
returns-clause-lists t c =
    let both = pairs c.args.small c.args.large (c.args.left - 1) in
    let after_small = tree c.args.large (c.args.left - 1) in
    let after_large = tree c.args.small (c.args.left - 1) in
    let on = sym (c.is_off.ensures c.args.mover.now c.requires.mover c.requires.masks) ∙ c.if-is_off.false in
    listed_all _ _ _ c.loop-places.invariant.left (two_dice c.args.mover.now c.args.small c.args.large both after_small after_large)
    (none_by_either c.args.mover.now c.args.small c.args.large both after_small after_large) (take c.args.played c.args.front)
    c.loop-places.turns.items c.args.turns.now.items c.loop-places.invariant.listed c.loop-places-test.false
    ∙ ap (λ xs. c.args.turns.now.items ++ behind (take c.args.played c.args.front) xs)
    (sym (pairs-at c.args.small c.args.large c.args.left c.args.mover.now c.if-left-eq0.false on))
