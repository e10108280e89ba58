use Rattle.std.proofs.Common.{◌≡◌, ◌++◌, replicate}
use Rattle.bg_table.proofs.turn_lists.put_blanks.Given as goal

abbrev pub invariant-blanks : goal.invariant-blanks
invariant-blanks l = l.out.items ≡ l.initial.out.items ++ replicate l.counter 32
