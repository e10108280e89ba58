use Rattle.std.specs.Prelude.{IsTrue}
use Rattle.bg_board.specs.Die.{pips}
use Rattle.bg_board.specs.Step.{Lands}
use Rattle.bg_table.proofs.Judging.{by_neither}
use Rattle.bg_table.proofs.step_refusals.reason.Goals as goal

pub returns-else-lands : goal.returns-else-lands
returns-else-lands c =
    let not : Lands c.args.step (pips c.judging_die-judging.result) → ⊥ = λ led. (let yes : IsTrue c.lands.result = c.lands.ensures.1 led in absurd cc) in
    by_neither c.args.board.now c.args.player c.args.dice c.args.left c.args.step (pips c.judging_die-judging.result) c.fault_of.result
    c.judging_die-judging.ensures not c.fault_of.ensures
