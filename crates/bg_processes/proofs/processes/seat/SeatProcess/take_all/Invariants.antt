use Rattle.bg_processes.specs.Rounds.{ends_takes, most_taken}
use Rattle.bg_processes.specs.SeatRounds.{SeatHappens, seat_moment, take_at}
use Rattle.bg_processes.proofs.Repeating.{HasRepeated}
use Rattle.bg_processes.proofs.processes.seat.SeatProcess.take_all.Given as goal

abbrev pub invariant-loop : goal.invariant-loop
invariant-loop g l =
    HasRepeated (SeatHappens g.L.Link.is_honest g.K.Keeper.is_honest) take_at ends_takes most_taken l.counter
    (seat_moment g.L.Link g.K.Keeper l.fn.self) (seat_moment g.L.Link g.K.Keeper l.self)
