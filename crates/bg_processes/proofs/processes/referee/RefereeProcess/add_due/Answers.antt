use Rattle.std.proofs.Common.{◌∙◌, sym}
use Rattle.bg_processes.specs.RefereeRounds.{RefereeHappens, due_at, ends_dues, most_due, referee_moment}
use Rattle.bg_processes.proofs.Repeating.{goes_on, is_done, stops}
use Rattle.bg_processes.proofs.processes.referee.RefereeProcess.add_due.Goals as goal

pub returns-then-ends_dues : goal.returns-then-ends_dues
returns-then-ends_dues g c =
    stops (RefereeHappens g.L.Link.is_honest g.K.Keeper.is_honest) due_at ends_dues most_due c.loop.counter (referee_moment g.L.Link g.K.Keeper c.args.self.now) (referee_moment g.L.Link g.K.Keeper c.loop.self)
    (referee_moment g.L.Link g.K.Keeper c.due.new.self) c.due.result c.loop-test.true c.due.ensures
    (sym c.ends_dues.ensures ∙ c.if-ends_dues.true) c.loop.invariant

pub loop-preserved : goal.loop-preserved
loop-preserved g c =
    goes_on (RefereeHappens g.L.Link.is_honest g.K.Keeper.is_honest) due_at ends_dues most_due c.loop.counter (referee_moment g.L.Link g.K.Keeper c.args.self.now) (referee_moment g.L.Link g.K.Keeper c.loop.self)
    (referee_moment g.L.Link g.K.Keeper c.due.new.self) c.due.result c.loop-test.true c.due.ensures
    (sym c.ends_dues.ensures ∙ c.if-ends_dues.false) c.loop.invariant

pub returns : goal.returns
returns g c =
    is_done (RefereeHappens g.L.Link.is_honest g.K.Keeper.is_honest) due_at ends_dues most_due c.loop.counter (referee_moment g.L.Link g.K.Keeper c.args.self.now) (referee_moment g.L.Link g.K.Keeper c.loop.self)
    c.loop-test.false c.loop.invariant
