use Rattle.bg_processes.specs.SeatRounds.{seat_moment}
use Rattle.bg_processes.proofs.RoundRuns.{choice_runs}
use Rattle.bg_processes.proofs.processes.seat.SeatProcess.choose.Goals as goal

pub returns-clause-runs : goal.returns-clause-runs
returns-clause-runs g c =
    choice_runs g.L.Link.is_honest g.K.Keeper.is_honest (seat_moment g.L.Link g.K.Keeper c.args.self.now)
    c.args.action c.play_choice.result (seat_moment g.L.Link g.K.Keeper c.play_choice.new.self) c.play_choice.ensures
