use Rattle.std.proofs.Common.{arith}
use Rattle.bg_table.proofs.Counted.{few_pips, pips_so_far}
use Rattle.bg_table.proofs.pips.pip_count.Goals as goal

pub overflow_add-pips : goal.overflow_add-pips
overflow_add-pips c =
    let low = pips_so_far c.args.board.now c.args.player c.checkers-counts.result.now c.loop-point.point c.loop-point.pips
    c.checkers-counts.ensures.value c.checkers-counts.ensures.board c.loop-point-test.true c.loop-point.invariant in
    rw c.from.ensures (omega (arith, low))

pub returns-clause-most : goal.returns-clause-most
returns-clause-most c =
    let few = few_pips c.args.board.now c.args.player c.checkers-counts.result.now c.checkers-counts.ensures.value c.checkers-counts.ensures.board in
    omega (arith, few.1, c.loop-point.invariant)
