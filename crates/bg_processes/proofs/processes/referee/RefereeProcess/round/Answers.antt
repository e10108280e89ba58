use Rattle.bg_processes.specs.RefereeRounds.{referee_moment}
use Rattle.bg_processes.proofs.RoundRuns.{referee_round_runs}
use Rattle.bg_processes.proofs.processes.referee.RefereeProcess.round.Goals as goal

pub returns-clause-runs : goal.returns-clause-runs
returns-clause-runs g c =
    referee_round_runs g.L.Link.is_honest g.K.Keeper.is_honest (referee_moment g.L.Link g.K.Keeper c.args.self.now)
    c.args.tick c.play.result (referee_moment g.L.Link g.K.Keeper c.play.new.self) c.play.ensures
