use Rattle.bg_processes.specs.RefereeRounds.{RefereeHappens, ends_pushes, referee_moment, tick_at}
use Rattle.bg_processes.proofs.Repeating.{HasRepeated}
use Rattle.bg_processes.proofs.processes.referee.RefereeProcess.push_all.Given as goal

abbrev pub invariant-loop : goal.invariant-loop
invariant-loop g l =
    HasRepeated (RefereeHappens g.L.Link.is_honest g.K.Keeper.is_honest) tick_at ends_pushes l.most l.counter
    (referee_moment g.L.Link g.K.Keeper l.fn.self) (referee_moment g.L.Link g.K.Keeper l.self)
