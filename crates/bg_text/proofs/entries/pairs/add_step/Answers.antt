use Rattle.std.proofs.Common.{◌≡◌, length, sym, ◌∙◌}
use Rattle.std.proofs.lemmas.Bool.{eqb-true}
use Rattle.bg_text.proofs.Spelling.Moves.{none_wrong, wrong_stays, too_many}
use Rattle.bg_text.proofs.entries.pairs.add_step.Goals as goal

pub returns-then-is_some-clause-turn : goal.returns-then-is_some-clause-turn
returns-then-is_some-clause-turn c = λ pairs pair shapes turn right.
    wrong_stays pairs pair c.args.fault c.args.turn.now c.args.step (sym c.is_some.ensures ∙ c.if-is_some.true) shapes turn right

pub returns-then-is_full-clause-turn : goal.returns-then-is_full-clause-turn
returns-then-is_full-clause-turn c = λ pairs pair shapes turn right.
    let full : length c.args.turn.now ≡ 4 = eqb-true _ 4 (sym (sym c.if-is_full.true ∙ c.is_full.ensures)) in
    too_many pairs pair c.args.turn.now c.args.step (none_wrong pairs c.args.fault c.args.turn.now (sym c.is_some.ensures ∙ c.if-is_some.false) turn) right full
