-- The difference is 0 as long as the bytes so far are the same.
use Rattle.std.proofs.Common.{◌≡◌, ◌↔◌, take}
use Rattle.bg_seals.proofs.tags.Tag.is.Given as goal

abbrev pub invariant-loop-i : goal.invariant-loop-i
invariant-loop-i l = (l.difference ≡ 0) ↔ (take l.i l.self.bytes ≡ take l.i l.bytes)
