use Rattle.bg_protocol.specs.Worlds.Starts.{IsWorldFault}
use Rattle.bg_protocol.specs.Worlds.Views.{keeper_view, link_view}
use Rattle.bg_protocol.specs.Worlds.World.{view_of}
use Rattle.bg_protocol.proofs.ReachedWorlds.Starting.{made_reached}
use Rattle.bg_protocol.proofs.worlds.World.new.Goals as goal

pub returns-clause-reached : goal.returns-clause-reached
returns-clause-reached g c =
    made_reached c.args.setup (link_view g.L.Link c.args.link) (keeper_view g.K.Keeper c.args.keepers.referee)
    (keeper_view g.K.Keeper c.args.keepers.x) (keeper_view g.K.Keeper c.args.keepers.o)
    (view_of g.L.Link g.K.Keeper) (λ fault. IsWorldFault fault c.args.setup) c.begin.result c.begin.ensures.start c.begin.ensures.refusal
