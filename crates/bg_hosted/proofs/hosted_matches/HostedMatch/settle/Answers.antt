use Rattle.std.proofs.Common.{refl}
use Rattle.bg_hosted.proofs.Going.{goes_further, stays}
use Rattle.bg_hosted.proofs.hosted_matches.HostedMatch.settle.Goals as goal

pub loop-turn-init : goal.loop-turn-init
loop-turn-init g c = stays _ _ _ refl

pub returns-then-not-turn : goal.returns-then-not-turn
returns-then-not-turn g c = goes_further _ _ _ _ c.loop-turn.invariant c.turn.ensures

pub loop-turn-preserved : goal.loop-turn-preserved
loop-turn-preserved g c = goes_further _ _ _ _ c.loop-turn.invariant c.turn.ensures
