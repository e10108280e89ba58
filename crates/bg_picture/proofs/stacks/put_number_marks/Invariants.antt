use Rattle.std.proofs.Common.{◌≡◌, ◌++◌, take}
use Rattle.bg_picture.specs.Stacks.{number_marks}
use Rattle.bg_picture.proofs.stacks.put_number_marks.Given as goal

abbrev pub invariant-loop-point : goal.invariant-loop-point
invariant-loop-point l = l.out.items ≡ l.initial.out.items ++ number_marks l.player (take l.point-index l.points)
