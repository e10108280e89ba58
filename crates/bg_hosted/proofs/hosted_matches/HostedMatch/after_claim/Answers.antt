use Rattle.bg_hosted.proofs.Going.{goes_by_restart, goes_further}
use Rattle.bg_hosted.proofs.hosted_matches.HostedMatch.after_claim.Goals as goal

pub returns-then-not-matches-clause-goes_on : goal.returns-then-not-matches-clause-goes_on
returns-then-not-matches-clause-goes_on g c = goes_further _ _ _ _ c.pass.ensures (goes_by_restart _ _ _ _ c.restart.ensures)

pub returns-clause-goes_on : goal.returns-clause-goes_on
returns-clause-goes_on g c = goes_further _ _ _ _ c.pass.ensures (goes_further _ _ _ _ c.pass-2.ensures c.settle.ensures)
