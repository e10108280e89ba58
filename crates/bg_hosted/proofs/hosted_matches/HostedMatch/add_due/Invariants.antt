use Rattle.bg_hosted.specs.Going.{GoesOn}
use Rattle.bg_hosted.specs.HostedMatches.{world_of}
use Rattle.bg_hosted.proofs.hosted_matches.HostedMatch.add_due.Given as goal

abbrev pub invariant-loop-count : goal.invariant-loop-count
invariant-loop-count g l = GoesOn g.K.Keeper.is_honest (world_of g.K.Keeper l.initial.self) (world_of g.K.Keeper l.self)
