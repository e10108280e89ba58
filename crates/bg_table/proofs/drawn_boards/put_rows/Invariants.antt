use Rattle.std.proofs.Common.{◌≡◌, ◌++◌, take}
use Rattle.bg_table.specs.DrawnBoards.{drawn_lines}
use Rattle.bg_table.proofs.drawn_boards.put_rows.Given as goal

abbrev pub invariant-loop-row : goal.invariant-loop-row
invariant-loop-row l = l.out.items ≡ l.initial.out.items ++ drawn_lines l.board l.reader (take l.row-index l.rows) l.left l.right
