use Rattle.std.proofs.Common.{ap}
use Rattle.bg_mat.specs.Telling.{deed_of}
use Rattle.bg_mat.proofs.OfReading.LegLemmas.{on_ok}
use Rattle.bg_mat.proofs.OfReading.Replays.{item_of_cell}
use Rattle.std.proofs.Common.{◌≢◌, []}
use Rattle.bg_mat.specs.Replaying.{place_of}
use Rattle.bg_mat.proofs.OfReading.ItemRefusals.{turn_deed}
use Rattle.bg_mat.proofs.OfReading.Refusing.{if_err, why_at}
use Rattle.bg_mat.proofs.playing.Replay.act.Goals as goal

pub returns-in-Turn-2-clause-done : goal.returns-in-Turn-2-clause-done
returns-in-Turn-2-clause-done c =
    on_ok c.turn.result
    (λ played. item_of_cell c.args.self.now c.turn.new.self c.args.line c.args.player c.args.cell _ (ap deed_of c.in-Turn.is)
    c.requires.closed played)
    c.turn.ensures.done

pub returns-in-CannotMove-clause-done : goal.returns-in-CannotMove-clause-done
returns-in-CannotMove-clause-done c =
    on_ok c.cannot_move.result
    (λ played. item_of_cell c.args.self.now c.cannot_move.new.self c.args.line c.args.player c.args.cell _ (ap deed_of c.in-CannotMove.is)
    c.requires.closed played)
    c.cannot_move.ensures.done

pub returns-in-Doubles-clause-done : goal.returns-in-Doubles-clause-done
returns-in-Doubles-clause-done c =
    on_ok c.double.result
    (λ played. item_of_cell c.args.self.now c.double.new.self c.args.line c.args.player c.args.cell _ (ap deed_of c.in-Doubles.is)
    c.requires.closed played)
    c.double.ensures.done

pub returns-in-Takes-clause-done : goal.returns-in-Takes-clause-done
returns-in-Takes-clause-done c =
    on_ok c.take.result
    (λ played. item_of_cell c.args.self.now c.take.new.self c.args.line c.args.player c.args.cell _ (ap deed_of c.in-Takes.is)
    c.requires.closed played)
    c.take.ensures.done

pub returns-in-Drops-clause-done : goal.returns-in-Drops-clause-done
returns-in-Drops-clause-done c =
    on_ok c.drop.result
    (λ played. item_of_cell c.args.self.now c.drop.new.self c.args.line c.args.player c.args.cell _ (ap deed_of c.in-Drops.is)
    c.requires.closed played)
    c.drop.ensures.done

pub returns-in-Wins-clause-done : goal.returns-in-Wins-clause-done
returns-in-Wins-clause-done c =
    on_ok c.win.result
    (λ played. item_of_cell c.args.self.now c.win.new.self c.args.line c.args.player c.args.cell _ (ap deed_of c.in-Wins.is)
    c.requires.closed played)
    c.win.ensures.done

pub returns-in-Turn-2-clause-fault : goal.returns-in-Turn-2-clause-fault
returns-in-Turn-2-clause-fault c =
    let deed = ap deed_of c.in-Turn.is in
    let some : c.in-Turn.legs.items ≢ [] = λ e.
    let t = rw e at c.if-is_empty.ensures in
    absurd (cc (t)) in
    rw deed (if_err c.turn.result
    (λ fault. why_at c.args.line fault
    (λ why h. turn_deed c.args.self.now.log (place_of c.args.self.now) c.args.player c.in-Turn.dice c.in-Turn.legs.items why
    some c.requires.goes_on h))
    c.turn.ensures.fault)
