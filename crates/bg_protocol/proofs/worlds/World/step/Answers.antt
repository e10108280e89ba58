use Rattle.bg_protocol.specs.Worlds.TwoSteps.{role_of}
use Rattle.bg_protocol.specs.Worlds.World.{view_of}
use Rattle.bg_protocol.proofs.TwoSteps.{others_stay}
use Rattle.bg_protocol.proofs.Steps.Goes.{goes}
use Rattle.bg_protocol.proofs.ReachedWorlds.NoRefusals.{never_refused}
use Rattle.bg_protocol.proofs.worlds.World.step.Goals as goal

pub returns-clause-others : goal.returns-clause-others
returns-clause-others g c = others_stay (role_of c.args.event) c.args.self.now c.happen.new.self c.happen.ensures.others

pub returns-clause-protocol : goal.returns-clause-protocol
returns-clause-protocol g c =
    goes g.L.Link.is_honest g.K.Keeper.is_honest (view_of g.L.Link g.K.Keeper c.args.self.now) c.args.event
    c.happen.new.outcome (view_of g.L.Link g.K.Keeper c.happen.new.self) c.happen.ensures.calls

pub returns-clause-accepted : goal.returns-clause-accepted
returns-clause-accepted g c =
    never_refused g.L.Link.is_honest g.K.Keeper.is_honest (view_of g.L.Link g.K.Keeper c.args.self.now) c.args.event
    c.happen.new.outcome (view_of g.L.Link g.K.Keeper c.happen.new.self) c.happen.ensures.calls
