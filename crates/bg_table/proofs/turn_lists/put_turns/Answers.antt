use Rattle.std.proofs.Common.{arith}
use Rattle.std.specs.Prelude.{codes, length}
use Rattle.std.specs.Fmt.{decimal}
use Rattle.bg_table.specs.TurnLists.{turns_text}
use Rattle.bg_table.proofs.Grown.{three_parts}
use Rattle.bg_table.proofs.Listed.{some_width}
use Rattle.bg_table.proofs.turn_lists.put_turns.Goals as goal

pub in_row-requires : goal.in_row-requires
in_row-requires c =
    let some = some_width c.args.board.now c.args.player c.args.turns.now in
    omega (arith, some, c.in_ok-width.ensures)

pub returns : goal.returns
unfolding turns_text
returns c =
    three_parts (decimal (length c.args.turns.now)) (codes " turns:\n") _ _ _ _ _
    c.in_ok-put_number.ensures c.in_ok-put_text.ensures
    (rw c.in_ok-width.ensures at rw c.in_row.ensures.value at c.in_ok-put_cells.ensures)
