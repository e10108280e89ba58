use Rattle.std.proofs.Common.{◌≡◌, ◌∙◌, length, sym, arith}
use Rattle.std.proofs.lemmas.Bool.Decides.{nat_tests}
use Rattle.bg_party.specs.Views.{FollowerView}
use Rattle.bg_party.specs.Takes.{LearnsNew}
use Rattle.bg_party.proofs.Growing.{list_teaches, nothing_in, something_in}
use Rattle.bg_party.proofs.follower.Follower.learn.Goals as goal

pub returns-in-Some-clause-teaches : goal.returns-in-Some-clause-teaches
returns-in-Some-clause-teaches c = rw (← c.self.view_is) c.in-Some.ensures

pub returns-then-is_empty-clause-teaches : goal.returns-then-is_empty-clause-teaches
returns-then-is_empty-clause-teaches c =
    let none : length c.in-Some-not_held.new.now ≡ 0 = grind (arith, nat_tests) in
    rw (← c.self.view_is) (
      (c.in_default.ensures, c.in-Some-not_held.ensures.0),
      sym c.in-Some-not_held.ensures.1
          ∙ nothing_in _ none,
    )

pub returns-then-is_empty_behind-clause-teaches : goal.returns-then-is_empty_behind-clause-teaches
returns-then-is_empty_behind-clause-teaches c =
    let new = c.in-Some-not_held.new.now in
    let f : FollowerView =
    record { log = c.self.inside.log; early = c.self.inside.window; retry = c.self.inside.retry } in
    let any : length new ≡ 0 → ⊥ = grind (arith, nat_tests) in
    let learns : LearnsNew f new c.learn_alone.result c.learn_alone.new.self =
    rw (c.self.view_is) c.learn_alone.ensures.learns in
    rw (← c.self.view_is)
    (list_teaches f c.args.start c.args.list.now new c.learn_alone.result c.learn_alone.new.self
    c.in-Some-not_held.ensures.1 (c.in_default.ensures, c.in-Some-not_held.ensures.0) (something_in _ any) learns).0

pub returns-else-is_empty_behind-clause-teaches : goal.returns-else-is_empty_behind-clause-teaches
returns-else-is_empty_behind-clause-teaches c =
    let new = c.in-Some-not_held.new.now in
    let f : FollowerView =
    record { log = c.self.inside.log; early = c.self.inside.window; retry = c.self.inside.retry } in
    let any : length new ≡ 0 → ⊥ = grind (arith, nat_tests) in
    let learns : LearnsNew f new c.learn_with_early.result c.learn_with_early.new.self =
    rw (c.self.view_is) c.learn_with_early.ensures.learns in
    rw (← c.self.view_is)
    (list_teaches f c.args.start c.args.list.now new c.learn_with_early.result c.learn_with_early.new.self
    c.in-Some-not_held.ensures.1 (c.in_default.ensures, c.in-Some-not_held.ensures.0) (something_in _ any) learns).0
