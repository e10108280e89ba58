use Rattle.bg_hosted.specs.Going.{GoesOn}
use Rattle.bg_hosted.specs.HostedMatches.{world_of}
use Rattle.bg_hosted.proofs.hosted_matches.HostedMatch.settle.Given as goal

abbrev pub invariant-loop-turn : goal.invariant-loop-turn
invariant-loop-turn g l = GoesOn g.K.Keeper.is_honest (world_of g.K.Keeper l.initial.self) (world_of g.K.Keeper l.self)
