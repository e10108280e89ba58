use Rattle.bg_hosted.specs.Going.{GoesOn}
use Rattle.bg_hosted.specs.HostedMatches.{world_of}
use Rattle.bg_hosted.proofs.hosted_matches.HostedMatch.restart_lost.Given as goal

abbrev pub invariant-loop-party : goal.invariant-loop-party
invariant-loop-party g l = GoesOn g.K.Keeper.is_honest (world_of g.K.Keeper l.initial.self) (world_of g.K.Keeper l.self)
