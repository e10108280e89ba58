use Rattle.bg_processes.specs.WatcherRounds.{watcher_moment}
use Rattle.bg_processes.proofs.RoundRuns.{watcher_round_runs}
use Rattle.bg_processes.proofs.processes.watcher.WatcherProcess.round.Goals as goal

pub returns-clause-runs : goal.returns-clause-runs
returns-clause-runs g c =
    watcher_round_runs g.L.Link.is_honest (watcher_moment g.L.Link c.args.self.now) c.args.tick c.play.result
    (watcher_moment g.L.Link c.play.new.self) c.play.ensures
