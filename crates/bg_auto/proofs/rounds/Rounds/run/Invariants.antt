use Rattle.bg_auto.specs.RoundResults.{moment_of}
use Rattle.bg_auto.specs.Rounds.{PlaysParts, match_parts}
use Rattle.bg_auto.proofs.rounds.Rounds.run.Given as goal

abbrev pub invariant-loop-done : goal.invariant-loop-done
invariant-loop-done g l =
    PlaysParts g.L.Link.is_honest g.K.Keeper.is_honest (moment_of g.L.Link g.K.Keeper l.fn.self)
    (match_parts l.done) (moment_of g.L.Link g.K.Keeper l.self)
