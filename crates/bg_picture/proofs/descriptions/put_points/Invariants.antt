use Rattle.std.proofs.Common.{◌≡◌, ◌++◌, take}
use Rattle.bg_picture.specs.Descriptions.{points_words}
use Rattle.bg_picture.proofs.descriptions.put_points.Given as goal

abbrev pub invariant-loop-point : goal.invariant-loop-point
invariant-loop-point l = l.out.items ≡ l.initial.out.items ++ points_words l.board l.player l.reader (take l.point-index l.points)
