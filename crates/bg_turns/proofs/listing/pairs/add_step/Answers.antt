use Rattle.std.proofs.Common.{◌≡◌, ◌∙◌, ◌-◌, ◌<◌, false, get_or, refl, arith}
use Rattle.std.proofs.lemmas.Bool.{false_from_ne_true}
use Rattle.std.proofs.lemmas.Result.{on_ok_weaker}
use Rattle.bg_turns.specs.MoverCounts.{can, after, tree}
use Rattle.bg_turns.proofs.Sides.{held_from_can}
use Rattle.bg_turns.proofs.Lists.OneDie.{IsMoverCounts-after}
use Rattle.bg_turns.proofs.Lists.Listed.{one_die-yes}
use Rattle.bg_turns.proofs.Lists.Growing.{step_lists, step_nothing}
use Rattle.bg_turns.proofs.listing.pairs.add_step.Goals as goal

pub returns-then-not-holds-clause-lists : goal.returns-then-not-holds-clause-lists
returns-then-not-holds-clause-lists c =
    let fails : can c.args.mover.now (25 - c.args.place) c.args.die ≡ false = false_from_ne_true (can c.args.mover.now (25 - c.args.place) c.args.die) (λ passed.
    let on = (c.requires.places.each c.args.place c.requires.place).1 passed in
    let wrong = c.if-not-holds.ensures.1 on in cc) in
    step_nothing c.args.mover.now c.args.die (25 - c.args.place) c.args.played (tree c.args.next c.args.left) c.args.front c.args.turns.now.items c.args.turns.now.items fails refl

pub after-after-requires-clause-checker : goal.after-after-requires-clause-checker
after-after-requires-clause-checker c =
    rw c.down-step.ensures (held_from_can _ _ _ ((c.requires.places.each c.args.place c.requires.place).0 (c.if-not-holds.ensures.0 refl)))

pub add_last-requires-clause-mover : goal.add_last-requires-clause-mover
add_last-requires-clause-mover c =
    let held = held_from_can _ _ _ ((c.requires.places.each c.args.place c.requires.place).0 (c.if-not-holds.ensures.0 refl)) in (
      after c.args.mover.now c.down-step.result.from c.down-step.result.to,
      IsMoverCounts-after _ _ _ c.requires.mover (omega arith) (omega arith) (rw c.down-step.ensures held),
      c.after-after.ensures,
    )

pub returns-then-left-eq1-clause-lists : goal.returns-then-left-eq1-clause-lists
returns-then-left-eq1-clause-lists c =
    let step = c.down-step.result in
    let passed = (c.requires.places.each c.args.place c.requires.place).0 (c.if-not-holds.ensures.0 refl) in
    let begins = one_die-yes c.args.mover.now c.args.die (tree c.args.next 1) (25 - c.args.place) passed in
    let held : 0 < get_or c.args.mover.now.own step.from 0 = rw c.down-step.ensures (held_from_can _ _ _ passed) in
    rw c.if-left-eq1.true
    (on_ok_weaker c.add_last.result (λ is.
    step_lists c.args.mover.now c.args.die (25 - c.args.place) c.args.played (tree c.args.next 1) c.args.front c.args.turns.now.items c.add_last.new.turns.items
    step (tree c.args.next 1) _ (omega arith) begins c.down-step.ensures (rw c.with_step-longer.ensures at is))
    (c.add_last.ensures (after c.args.mover.now step.from step.to)
    (IsMoverCounts-after _ _ _ c.requires.mover (omega arith) (omega arith) held) c.after-after.ensures))

pub play-requires-clause-checker : goal.play-requires-clause-checker
play-requires-clause-checker c =
    rw c.down-step.ensures (held_from_can _ _ _ ((c.requires.places.each c.args.place c.requires.place).0 (c.if-not-holds.ensures.0 refl)))

pub returns-clause-lists : goal.returns-clause-lists
returns-clause-lists c =
    let passed = (c.requires.places.each c.args.place c.requires.place).0 (c.if-not-holds.ensures.0 refl) in
    let begins = one_die-yes c.args.mover.now c.args.die (tree c.args.next c.args.left) (25 - c.args.place) passed in
    step_lists c.args.mover.now c.args.die (25 - c.args.place) c.args.played (tree c.args.next c.args.left) c.args.front c.args.turns.now.items c.add_tree.new.turns.items
    c.down-step.result (tree c.args.next c.args.left) _ (omega arith) begins c.down-step.ensures
    (rw (c.with_step-longer.ensures, c.play.ensures.value) at c.in_ok-add_tree.ensures.lists)

pub returns-clause-mover : goal.returns-clause-mover
returns-clause-mover c =
    let passed = (c.requires.places.each c.args.place c.requires.place).0 (c.if-not-holds.ensures.0 refl) in
    let held : 0 < get_or c.args.mover.now.own c.down-step.result.from 0 = rw c.down-step.ensures (held_from_can _ _ _ passed) in
    c.take_back.ensures c.args.mover.now c.requires.mover held (c.in_ok-add_tree.ensures.mover ∙ c.play.ensures.value)
