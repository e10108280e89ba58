use Rattle.std.proofs.Common.{◌≡◌, rules, arith, length}
use Rattle.bg_table.proofs.Listed.{cell_more}
use Rattle.bg_table.proofs.turn_lists.put_cells.Goals as goal

pub loop-index-preserved : goal.loop-index-preserved
loop-index-preserved c =
    let before : c.len-start.result ≡ length c.loop-index.out.items = first_of (omega arith, search rules) in
    let behind : c.len.result ≡ length c.put_marked.new.out.items = first_of (omega arith, search rules) in
    cell_more c.args.board.now c.args.player c.args.width c.args.row c.args.turns.now c.loop-index.index c.index-turns-index.result
    c.loop-index.out.items c.put_marked.new.out.items c.put_gap.new.out.items _ c.saturating_sub-spare.result
    c.loop-index-test.true c.index-turns-index.is (rw c.steps.ensures.value at c.in_ok-put_marked.ensures)
    (omega (arith, before, behind, c.saturating_sub-spare.ensures)) (rw c.ends_line.ensures at c.in_ok-put_gap.ensures)
    c.loop-index.invariant
