use Rattle.std.proofs.Common.{◌+◌}
use Rattle.bg_picture.proofs.Listed.{IsPartListed}
use Rattle.bg_picture.proofs.pages.put_entries.Given as goal

abbrev pub invariant-loop-written : goal.invariant-loop-written
invariant-loop-written l = IsPartListed l.log (l.written + 1) l.initial.out.items l.standing l.out.items
