use Rattle.std.proofs.Common.{take, ◌++◌}
use Rattle.bg_match.specs.Match.{StandsAt}
use Rattle.bg_party.proofs.told.count_that_follow.Given as goal

abbrev pub invariant-loop-index : goal.invariant-loop-index
invariant-loop-index l = StandsAt l.log.terms ((l.log.entries ++ l.new) ++ take l.index l.list) l.standing
