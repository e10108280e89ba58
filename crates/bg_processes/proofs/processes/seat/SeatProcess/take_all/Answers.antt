use Rattle.std.proofs.Common.{◌∙◌, sym}
use Rattle.bg_processes.specs.SeatRounds.{SeatHappens, seat_moment, take_at}
use Rattle.bg_processes.specs.Rounds.{ends_takes, most_taken}
use Rattle.bg_processes.proofs.Repeating.{goes_on, is_done, stops}
use Rattle.bg_processes.proofs.processes.seat.SeatProcess.take_all.Goals as goal

pub returns-then-ends_takes : goal.returns-then-ends_takes
returns-then-ends_takes g c =
    stops (SeatHappens g.L.Link.is_honest g.K.Keeper.is_honest) take_at ends_takes most_taken c.loop.counter (seat_moment g.L.Link g.K.Keeper c.args.self.now) (seat_moment g.L.Link g.K.Keeper c.loop.self)
    (seat_moment g.L.Link g.K.Keeper c.take.new.self) c.take.result c.loop-test.true c.take.ensures
    (sym c.ends_takes.ensures ∙ c.if-ends_takes.true) c.loop.invariant

pub loop-preserved : goal.loop-preserved
loop-preserved g c =
    goes_on (SeatHappens g.L.Link.is_honest g.K.Keeper.is_honest) take_at ends_takes most_taken c.loop.counter (seat_moment g.L.Link g.K.Keeper c.args.self.now) (seat_moment g.L.Link g.K.Keeper c.loop.self)
    (seat_moment g.L.Link g.K.Keeper c.take.new.self) c.take.result c.loop-test.true c.take.ensures
    (sym c.ends_takes.ensures ∙ c.if-ends_takes.false) c.loop.invariant

pub returns : goal.returns
returns g c =
    is_done (SeatHappens g.L.Link.is_honest g.K.Keeper.is_honest) take_at ends_takes most_taken c.loop.counter (seat_moment g.L.Link g.K.Keeper c.args.self.now) (seat_moment g.L.Link g.K.Keeper c.loop.self)
    c.loop-test.false c.loop.invariant
