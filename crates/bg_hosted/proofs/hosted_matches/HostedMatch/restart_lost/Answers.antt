use Rattle.std.proofs.Common.{refl}
use Rattle.bg_hosted.proofs.Going.{goes_further, stays}
use Rattle.bg_hosted.proofs.hosted_matches.HostedMatch.restart_lost.Goals as goal

pub loop-party-init : goal.loop-party-init
loop-party-init g c = stays _ _ _ refl

pub loop-party-preserved : goal.loop-party-preserved
loop-party-preserved g c = goes_further _ _ _ _ c.loop-party.invariant c.restart_if_down.ensures
