use Rattle.std.proofs.Common.{◌∙◌, sym}
use Rattle.bg_processes.specs.RefereeRounds.{RefereeHappens, ends_pushes, referee_moment, tick_at}
use Rattle.bg_processes.proofs.Repeating.{goes_on, is_done, stops}
use Rattle.bg_processes.proofs.processes.referee.RefereeProcess.push_all.Goals as goal

pub returns-then-ends_pushes : goal.returns-then-ends_pushes
returns-then-ends_pushes g c =
    stops (RefereeHappens g.L.Link.is_honest g.K.Keeper.is_honest) tick_at ends_pushes c.args.most c.loop.counter (referee_moment g.L.Link g.K.Keeper c.args.self.now) (referee_moment g.L.Link g.K.Keeper c.loop.self)
    (referee_moment g.L.Link g.K.Keeper c.tick.new.self) c.tick.result c.loop-test.true c.tick.ensures
    (sym c.ends_pushes.ensures ∙ c.if-ends_pushes.true) c.loop.invariant

pub loop-preserved : goal.loop-preserved
loop-preserved g c =
    goes_on (RefereeHappens g.L.Link.is_honest g.K.Keeper.is_honest) tick_at ends_pushes c.args.most c.loop.counter (referee_moment g.L.Link g.K.Keeper c.args.self.now) (referee_moment g.L.Link g.K.Keeper c.loop.self)
    (referee_moment g.L.Link g.K.Keeper c.tick.new.self) c.tick.result c.loop-test.true c.tick.ensures
    (sym c.ends_pushes.ensures ∙ c.if-ends_pushes.false) c.loop.invariant

pub returns : goal.returns
returns g c =
    is_done (RefereeHappens g.L.Link.is_honest g.K.Keeper.is_honest) tick_at ends_pushes c.args.most c.loop.counter (referee_moment g.L.Link g.K.Keeper c.args.self.now) (referee_moment g.L.Link g.K.Keeper c.loop.self)
    c.loop-test.false c.loop.invariant
