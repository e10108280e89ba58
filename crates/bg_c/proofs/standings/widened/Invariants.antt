-- The numbers so far are there.
use Rattle.std.proofs.Common.{◌≡◌, length, take}
use Rattle.bg_c.proofs.standings.widened.Given as goal

abbrev pub invariant-loop-point : goal.invariant-loop-point
invariant-loop-point l = record { long : length l.wide ≡ 26; same : take l.point l.wide ≡ take l.point l.counts }
