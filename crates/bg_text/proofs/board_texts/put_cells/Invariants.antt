use Rattle.std.proofs.Common.{◌≡◌, ◌++◌, take}
use Rattle.bg_text.specs.Boards.BoardText.{cells_line}
use Rattle.bg_text.proofs.board_texts.put_cells.Given as goal

abbrev pub invariant-loop-point : goal.invariant-loop-point
invariant-loop-point l = l.out.items ≡ l.initial.out.items ++ cells_line l.board (take l.point-index l.points)
