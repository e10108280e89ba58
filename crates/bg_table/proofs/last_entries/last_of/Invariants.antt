use Rattle.std.proofs.Common.{◌-◌}
use Rattle.bg_table.proofs.Latest.{IsNoneAbove}
use Rattle.bg_table.proofs.last_entries.last_of.Given as goal

abbrev pub invariant-loop-behind : goal.invariant-loop-behind
invariant-loop-behind l = IsNoneAbove l.log l.player (l.count - l.behind)
