use Rattle.bg_match.proofs.MatchLength.{terms-StandsAt}
use Rattle.bg_match.proofs.records.Record.standing.Goals as goal

pub returns-clause-length : goal.returns-clause-length
returns-clause-length c = rw (← c.self.view_is) (terms-StandsAt _ _ _ c.self.invariant.stands)
