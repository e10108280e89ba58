use Rattle.std.proofs.Common.{◌+◌, refl}
use Rattle.bg_protocol.specs.Worlds.World.{view_of}
use Rattle.bg_world.proofs.Lines.ScriptLines.{played_more, played_start}
use Rattle.bg_world.proofs.texts.scripts.play.Goals as goal

pub loop-line-init : goal.loop-line-init
loop-line-init g c =
    let old = view_of g.L.Link g.K.Keeper c.args.world.now in
    played_start g.L.Link.is_honest g.K.Keeper.is_honest old old c.args.input.now c.args.out.now.items
    c.args.out.now.items c.args.input.now refl refl refl

pub loop-line-preserved : goal.loop-line-preserved
loop-line-preserved g c =
    played_more g.L.Link.is_honest g.K.Keeper.is_honest (view_of g.L.Link g.K.Keeper c.args.world.now)
    (view_of g.L.Link g.K.Keeper c.loop-line.world) (view_of g.L.Link g.K.Keeper c.step.new.self)
    c.args.input.now c.args.out.now.items c.loop-line.out.items c.put_outcome.new.out.items
    c.loop-line.count (c.loop-line.count + 1) c.loop-line.rest.now c.in-Some.after.now c.in-Some.line.now
    c.in-Ok.event c.step.result c.loop-line.invariant c.in-Some.ensures.lines c.in-Some.ensures.shorter
    c.in-Ok.ensures.found.0 c.in-Ok.ensures.found.1 c.step.ensures.calls c.in_ok-put_outcome.ensures refl
