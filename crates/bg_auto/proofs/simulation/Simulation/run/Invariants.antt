use Rattle.std.proofs.Common.{◌≡◌}
use Rattle.bg_auto.specs.Simulating.{Runs}
use Rattle.bg_auto.specs.Words.{schedule_at}
use Rattle.bg_auto.proofs.simulation.Simulation.run.Given as goal

abbrev pub invariant-loop-index : goal.invariant-loop-index
invariant-loop-index g l = record {
  runs : Runs l.index l.fn.self l.self;
  schedule : l.schedule ≡ schedule_at l.self.seed l.index;
  kept : l.kept.seed ≡ l.self.seed;
}
