use Rattle.std.proofs.Common.{◌≡◌, ◌++◌, take}
use Rattle.bg_table.specs.BoardLines.{cells}
use Rattle.bg_table.proofs.board_lines.Line.put_cells.Given as goal

abbrev pub invariant-loop-point : goal.invariant-loop-point
invariant-loop-point l = l.out.items ≡ l.initial.out.items ++ cells l.self l.board l.reader (take l.point-index l.points)
