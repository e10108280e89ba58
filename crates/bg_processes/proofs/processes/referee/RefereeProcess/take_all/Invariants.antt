use Rattle.bg_processes.specs.RefereeRounds.{RefereeHappens, referee_moment, take_at}
use Rattle.bg_processes.specs.Rounds.{ends_takes, most_taken}
use Rattle.bg_processes.proofs.Repeating.{HasRepeated}
use Rattle.bg_processes.proofs.processes.referee.RefereeProcess.take_all.Given as goal

abbrev pub invariant-loop : goal.invariant-loop
invariant-loop g l =
    HasRepeated (RefereeHappens g.L.Link.is_honest g.K.Keeper.is_honest) take_at ends_takes most_taken l.counter
    (referee_moment g.L.Link g.K.Keeper l.fn.self) (referee_moment g.L.Link g.K.Keeper l.self)
