use Rattle.std.proofs.Common.{take}
use Rattle.bg_auto.specs.RoundResults.{moment_of}
use Rattle.bg_auto.specs.Rounds.{PlaysParts}
use Rattle.bg_auto.proofs.rounds.Rounds.play_all.Given as goal

abbrev pub invariant-loop-part : goal.invariant-loop-part
invariant-loop-part g l =
    PlaysParts g.L.Link.is_honest g.K.Keeper.is_honest (moment_of g.L.Link g.K.Keeper l.fn.self)
    (take l.part-index l.parts) (moment_of g.L.Link g.K.Keeper l.self)
