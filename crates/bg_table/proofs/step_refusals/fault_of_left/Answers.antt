use Rattle.std.proofs.Common.{rules}
use Rattle.bg_board.specs.Die.{pips}
use Rattle.bg_board.specs.Step.{Lands}
use Rattle.bg_table.proofs.Judging.{by_both, by_one}
use Rattle.bg_table.proofs.step_refusals.fault_of_left.Goals as goal

pub returns-in-Both : goal.returns-in-Both
returns-in-Both c =
    by_both c.args.board.now c.args.player c.args.dice c.args.left c.args.step (pips c.judging_die.result) c.fault_of.result
    c.in-Both.is c.judging_die.ensures c.requires c.fault_of.ensures

pub returns-in-One : goal.returns-in-One
returns-in-One c =
    let led : Lands c.args.step (pips c.in-One.die) = c.lands.ensures.0 (search rules) in
    by_one c.args.board.now c.args.player c.args.dice c.args.left c.args.step c.in-One.die c.fault_of-in-One.result
    c.in-One.is led c.fault_of-in-One.ensures
