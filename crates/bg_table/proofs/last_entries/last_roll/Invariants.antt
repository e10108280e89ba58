use Rattle.std.proofs.Common.{◌-◌}
use Rattle.bg_table.specs.LastEntries.{HasNoRoll}
use Rattle.bg_table.proofs.last_entries.last_roll.Given as goal

abbrev pub invariant-loop-behind : goal.invariant-loop-behind
invariant-loop-behind l = HasNoRoll l.log (l.number - l.behind) l.number
