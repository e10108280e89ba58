use Rattle.std.proofs.Common.{rules}
use Rattle.bg_match.proofs.Kept.{IsKept-empty}
use Rattle.bg_match.proofs.records.Record.new.Goals as goal

pub invariant_of-result : goal.invariant_of-result
invariant_of-result c = rw (c.new-2.ensures.items, c.start.ensures) (IsKept-empty _ (search rules) (search rules))
