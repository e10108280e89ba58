use Rattle.std.proofs.Common.{refl}
use Rattle.bg_hosted.proofs.Going.{goes_further, stays}
use Rattle.bg_hosted.proofs.hosted_matches.HostedMatch.add_due.Goals as goal

pub loop-count-init : goal.loop-count-init
loop-count-init g c = stays _ _ _ refl

pub returns-in_default : goal.returns-in_default
returns-in_default g c = goes_further _ _ _ _ c.loop-count.invariant c.pass.ensures

pub loop-count-preserved : goal.loop-count-preserved
loop-count-preserved g c = goes_further _ _ _ _ c.loop-count.invariant c.pass.ensures
