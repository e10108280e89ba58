use Rattle.std.proofs.Common.{length}
use Rattle.bg_world.specs.Texts.Scripts.{IsPartPlayed}
use Rattle.bg_protocol.specs.Worlds.World.{view_of}
use Rattle.bg_world.proofs.texts.scripts.play.Given as goal

abbrev pub invariant-loop-line : goal.invariant-loop-line
invariant-loop-line g l =
    IsPartPlayed g.L.Link.is_honest g.K.Keeper.is_honest (view_of g.L.Link g.K.Keeper l.fn.world) l.input
    (l.fn.out).items (l.out).items (view_of g.L.Link g.K.Keeper l.world) l.count l.rest

abbrev pub decreases-loop-line : goal.decreases-loop-line
decreases-loop-line g l = length l.rest
