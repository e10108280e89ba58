use Rattle.std.proofs.Common.{◌≡◌, ◌+◌, ◌++◌, drop}
use Rattle.bg_table.specs.TurnLists.{cells_text}
use Rattle.bg_table.proofs.turn_lists.put_cells.Given as goal

abbrev pub invariant-loop-index : goal.invariant-loop-index
invariant-loop-index l =
    l.out.items ++ cells_text l.board l.player l.width l.row (l.index + 1) (drop l.index l.turns)
    ≡ l.initial.out.items ++ cells_text l.board l.player l.width l.row 1 l.turns
