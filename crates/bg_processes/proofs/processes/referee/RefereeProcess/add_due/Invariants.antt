use Rattle.bg_processes.specs.RefereeRounds.{RefereeHappens, due_at, ends_dues, most_due, referee_moment}
use Rattle.bg_processes.proofs.Repeating.{HasRepeated}
use Rattle.bg_processes.proofs.processes.referee.RefereeProcess.add_due.Given as goal

abbrev pub invariant-loop : goal.invariant-loop
invariant-loop g l =
    HasRepeated (RefereeHappens g.L.Link.is_honest g.K.Keeper.is_honest) due_at ends_dues most_due l.counter
    (referee_moment g.L.Link g.K.Keeper l.fn.self) (referee_moment g.L.Link g.K.Keeper l.self)
