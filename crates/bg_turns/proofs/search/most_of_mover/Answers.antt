use Rattle.std.proofs.Common.{◌≢◌, refl}
use Rattle.bg_turns.specs.Dice.{first_pips, second_pips}
use Rattle.bg_turns.proofs.Orders.{most_double, most_two, most_both, dice_list-double, dice_list-two}
use Rattle.bg_turns.proofs.search.most_of_mover.Goals as goal

pub returns-then-is_double-clause-most : goal.returns-then-is_double-clause-most
returns-then-is_double-clause-most c b p s =
    let most = rw c.pips-first.ensures.value at (c.most_of_double.ensures.most b p s) in
    rw (dice_list-double c.args.dice (c.if-is_double.ensures.0 refl))
    (most_double _ _ (first_pips c.args.dice) _ most)

pub returns-then-forth-eq2-clause-most : goal.returns-then-forth-eq2-clause-most
returns-then-forth-eq2-clause-most c b p s =
    let differ : first_pips c.args.dice ≢ second_pips c.args.dice = λ same. let wrong = c.if-is_double.ensures.1 same in cc in
    let forth = rw (c.pips-first.ensures.value, c.pips-second.ensures.value, c.if-forth-eq2.true) at (c.most_of_two-forth.ensures.most b p s) in
    rw (dice_list-two c.args.dice differ, c.if-forth-eq2.true) (most_both _ _ _ _ forth)

pub returns-clause-most : goal.returns-clause-most
returns-clause-most c b p s =
    let differ : first_pips c.args.dice ≢ second_pips c.args.dice = λ same. let wrong = c.if-is_double.ensures.1 same in cc in
    let forth = rw (c.pips-first.ensures.value, c.pips-second.ensures.value) at (c.most_of_two-forth.ensures.most b p s) in
    let back = rw (c.pips-first.ensures.value, c.pips-second.ensures.value) at (c.most_of_two.ensures.most b p s) in
    rw (dice_list-two c.args.dice differ, c.max.ensures) (most_two _ _ _ _ _ _ forth back)
