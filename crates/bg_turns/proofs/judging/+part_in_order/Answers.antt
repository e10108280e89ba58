use Rattle.std.proofs.Common.{arith}
use Rattle.bg_turns.proofs.Parts.{part_more, part_stuck}
use Rattle.bg_turns.proofs.Sides.{Stands-after}
use Rattle.bg_turns.proofs.judging.+part_in_order.Goals as goal

pub returns-then-not-can_play_step-clause-part : goal.returns-then-not-can_play_step-clause-part
returns-then-not-can_play_step-clause-part t c b p s =
    let test = rw c.pips.ensures.value at (c.can_play_step.ensures.step b p s) in
    rw (c.in-Some-Some.ensures.cases.0, c.in-Some-Some.ensures'.cases.0)
    (part_stuck _ _ _ _ _ _ (λ legal. let wrong = test.1 legal in cc))

pub returns-clause-part : goal.returns-clause-part
returns-clause-part t c b p s =
    let test = rw c.pips.ensures.value at (c.can_play_step.ensures.step b p s) in
    let legal = test.0 c.if-not-can_play_step.false in
    let stands = Stands-after _ b p _ _ s (let d = legal.downward in let h = legal.starts in omega arith) in
    let rest = rw c.play.ensures.value at c.part_in_order.ensures.part in
    rw (c.in-Some-Some.ensures.cases.0, c.in-Some-Some.ensures'.cases.0)
    (part_more _ _ _ _ _ _ _ legal (rest _ p stands))
