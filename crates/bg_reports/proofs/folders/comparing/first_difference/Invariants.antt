use Rattle.std.proofs.Common.{◌≡◌, take}
use Rattle.bg_reports.proofs.folders.comparing.first_difference.Given as goal

abbrev pub invariant-loop-before : goal.invariant-loop-before
invariant-loop-before l = take l.before l.log.entries ≡ take l.before l.others.entries
