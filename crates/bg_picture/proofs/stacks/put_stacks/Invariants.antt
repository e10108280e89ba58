use Rattle.std.proofs.Common.{◌≡◌, ◌++◌, take}
use Rattle.bg_picture.specs.Stacks.{stacks_text}
use Rattle.bg_picture.proofs.stacks.put_stacks.Given as goal

abbrev pub invariant-loop-point : goal.invariant-loop-point
invariant-loop-point l = l.out.items ≡ l.initial.out.items ++ stacks_text l.board l.player (take l.point-index l.points)
