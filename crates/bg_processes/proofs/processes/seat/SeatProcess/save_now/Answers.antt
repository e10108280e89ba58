use Rattle.std.specs.Prelude.{true}
use Rattle.bg_processes.specs.SeatRounds.{seat_moment}
use Rattle.bg_processes.proofs.RoundRuns.{kept_lead}
use Rattle.bg_processes.proofs.processes.seat.SeatProcess.save_now.Goals as goal

pub returns-clause-runs : goal.returns-clause-runs
returns-clause-runs g c =
    kept_lead g.L.Link.is_honest g.K.Keeper.is_honest (seat_moment g.L.Link g.K.Keeper c.args.self.now) true
    c.restart_or_save.result (seat_moment g.L.Link g.K.Keeper c.restart_or_save.new.self) c.restart_or_save.ensures
