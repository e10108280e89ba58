use Rattle.bg_processes.specs.Rounds.{ends_takes, most_taken}
use Rattle.bg_processes.specs.WatcherRounds.{WatcherHappens, take_at, watcher_moment}
use Rattle.bg_processes.proofs.Repeating.{HasRepeated}
use Rattle.bg_processes.proofs.processes.watcher.WatcherProcess.take_all.Given as goal

abbrev pub invariant-loop : goal.invariant-loop
invariant-loop g l =
    HasRepeated (WatcherHappens g.L.Link.is_honest) take_at ends_takes most_taken l.counter
    (watcher_moment g.L.Link l.fn.self) (watcher_moment g.L.Link l.self)
