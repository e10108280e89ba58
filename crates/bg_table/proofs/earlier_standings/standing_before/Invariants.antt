use Rattle.std.proofs.Common.{take}
use Rattle.bg_match.specs.Match.{StandsAt}
use Rattle.bg_table.proofs.earlier_standings.standing_before.Given as goal

abbrev pub invariant-loop-played : goal.invariant-loop-played
invariant-loop-played l = StandsAt l.log.terms (take l.played l.log.entries) l.standing
