use Rattle.std.proofs.Common.{◌≢◌, refl}
use Rattle.bg_turns.specs.Dice.{first_pips, second_pips}
use Rattle.bg_turns.proofs.Orders.{dice_list-double, dice_list-two}
use Rattle.bg_turns.proofs.Parts.{part_double, part_whole, part_longer}
use Rattle.bg_turns.proofs.Sides.{Stands-of}
use Rattle.bg_turns.proofs.judging.longest_part.Goals as goal

pub returns-then-is_double : goal.returns-then-is_double
returns-then-is_double c =
    let mover = c.of-mover.ensures in
    let stands = Stands-of c.of-mover.result c.args.board.now c.args.player mover.own mover.other mover.board in
    rw (dice_list-double c.args.dice (c.if-is_double.ensures.0 refl))
    (part_double _ _ (first_pips c.args.dice) _ _ (c.part_in_order.ensures.part c.args.board.now c.args.player stands))

pub returns-then-forth-steps : goal.returns-then-forth-steps
returns-then-forth-steps c =
    let differ : first_pips c.args.dice ≢ second_pips c.args.dice = λ same. let wrong = c.if-is_double.ensures.1 same in cc in
    let mover = c.of-mover.ensures in
    let stands = Stands-of c.of-mover.result c.args.board.now c.args.player mover.own mover.other mover.board in
    rw (dice_list-two c.args.dice differ)
    (part_whole _ _ _ _ _ _ (c.part_in_order-forth.ensures.part c.args.board.now c.args.player stands) c.if-forth-steps.true)

pub returns : goal.returns
returns c =
    let differ : first_pips c.args.dice ≢ second_pips c.args.dice = λ same. let wrong = c.if-is_double.ensures.1 same in cc in
    let mover = c.of-mover.ensures in
    let again = c.of-mover-2.ensures in
    let stands = Stands-of c.of-mover.result c.args.board.now c.args.player mover.own mover.other mover.board in
    let stands' = Stands-of c.of-mover-2.result c.args.board.now c.args.player again.own again.other again.board in
    rw (dice_list-two c.args.dice differ)
    (part_longer _ _ _ _ _ _ _ _ (c.part_in_order-forth.ensures.part c.args.board.now c.args.player stands)
    (c.part_in_order-2.ensures.part c.args.board.now c.args.player stands') c.max.ensures)
