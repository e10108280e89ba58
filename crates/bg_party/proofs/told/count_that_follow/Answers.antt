use Rattle.std.proofs.Common.{◌≡◌, ◌++◌, ◌∙◌, sym, take, length, arith, length-append}
use Rattle.std.proofs.lemmas.List.{length-take-le}
use Rattle.bg_match.proofs.Extending.{goes_on, not_ok, on_ok}
use Rattle.bg_party.proofs.Following.{follows_for}
use Rattle.bg_party.proofs.told.count_that_follow.Goals as goal

pub returns-then-is_err : goal.returns-then-is_err
returns-then-is_err c =
    let taken : length (take c.loop-index.index c.args.list.now) ≡ c.loop-index.index =
    length-take-le c.loop-index.index c.args.list.now (omega arith) in
    follows_for c.args.log.now.terms
    (c.args.log.now.entries ++ c.args.new.now) c.args.list.now c.loop-index.index c.index-list-index.result
    c.loop-index.standing c.loop-index-test.true c.index-list-index.is
    (omega (arith, c.requires.few, length-append c.args.log.now.entries c.args.new.now)) taken
    c.loop-index.invariant (λ can. not_ok c.apply.result (sym c.is_err.ensures.value ∙ c.if-is_err.true) (c.apply.ensures.ok.1 can))

pub loop-index-preserved : goal.loop-index-preserved
loop-index-preserved c =
    goes_on c.args.log.now.terms
    (c.args.log.now.entries ++ c.args.new.now) c.args.list.now c.loop-index.index c.index-list-index.result
    c.loop-index.standing c.apply.new.self c.loop-index-test.true c.index-list-index.is c.loop-index.invariant
    (on_ok c.apply.result _ (sym c.is_err.ensures.value ∙ c.if-is_err.false) c.apply.ensures.after)
