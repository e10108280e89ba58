use Rattle.std.proofs.Common.{take, ◌≤◌, ◌≡◌}
use Rattle.bg_protocol.specs.Worlds.World.{view_of}
use Rattle.bg_protocol.specs.Worlds.WorldRuns.{RunsCalls}
use Rattle.bg_protocol.proofs.worlds.World.steps.Given as goal

abbrev pub invariant-loop-event : goal.invariant-loop-event
invariant-loop-event g l = record {
  runs : RunsCalls g.L.Link.is_honest g.K.Keeper.is_honest (view_of g.L.Link g.K.Keeper l.fn.self)
      (take l.event-index l.events) l.report (view_of g.L.Link g.K.Keeper l.self);
  done : (l.report).done ≡ l.event-index;
  memory : (l.report).memory ≤ l.event-index;
  faults : (l.report).faults ≤ l.event-index;
}
