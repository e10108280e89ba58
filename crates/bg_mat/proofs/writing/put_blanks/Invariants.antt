use Rattle.std.proofs.Common.{◌≡◌, ◌++◌, replicate}
use Rattle.bg_mat.proofs.writing.put_blanks.Given as goal

abbrev pub invariant-loop-written : goal.invariant-loop-written
invariant-loop-written l = l.out.items ≡ l.initial.out.items ++ replicate l.written 32
