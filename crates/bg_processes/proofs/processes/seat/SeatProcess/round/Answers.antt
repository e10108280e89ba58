use Rattle.bg_processes.specs.SeatRounds.{seat_moment}
use Rattle.bg_processes.proofs.RoundRuns.{seat_round_runs}
use Rattle.bg_processes.proofs.processes.seat.SeatProcess.round.Goals as goal

pub returns-clause-runs : goal.returns-clause-runs
returns-clause-runs g c =
    seat_round_runs g.L.Link.is_honest g.K.Keeper.is_honest (seat_moment g.L.Link g.K.Keeper c.args.self.now)
    c.args.tick c.play.result (seat_moment g.L.Link g.K.Keeper c.play.new.self) c.play.ensures
