use Rattle.std.proofs.Common.{◌≡◌, ◌++◌, take}
use Rattle.bg_table.specs.DrawnBoards.{listed_points}
use Rattle.bg_table.proofs.listed_boards.put_listed_points.Given as goal

abbrev pub invariant-loop-point : goal.invariant-loop-point
invariant-loop-point l = l.out.items ≡ l.initial.out.items ++ listed_points l.board l.reader (take l.point-index l.points)
