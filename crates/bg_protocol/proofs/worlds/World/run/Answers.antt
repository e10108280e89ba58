use Rattle.bg_protocol.specs.Worlds.World.{view_of}
use Rattle.bg_protocol.proofs.Steps.Goes.{runs_all}
use Rattle.bg_protocol.proofs.ReachedWorlds.Upheld.{upholds}
use Rattle.bg_protocol.proofs.worlds.World.run.Goals as goal

pub returns-clause-run : goal.returns-clause-run
returns-clause-run g c =
    runs_all g.L.Link.is_honest g.K.Keeper.is_honest (view_of g.L.Link g.K.Keeper c.args.self.now) c.args.events.now
    c.steps.result (view_of g.L.Link g.K.Keeper c.steps.new.self) c.steps.ensures

pub returns-clause-upholds : goal.returns-clause-upholds
returns-clause-upholds g c = λ link keepers before.
    let all = returns-clause-run g c in
    upholds (view_of g.L.Link g.K.Keeper c.steps.new.self) (all.protocol link keepers before).0
