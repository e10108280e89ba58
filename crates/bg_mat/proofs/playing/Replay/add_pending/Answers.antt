use Rattle.std.proofs.Common.{◌∙◌}
use Rattle.bg_mat.proofs.OfReading.LegLemmas.{on_ok}
use Rattle.bg_mat.proofs.OfReading.Replays as replays
use Rattle.std.proofs.Common.{inr}
use Rattle.bg_mat.proofs.OfReading.ItemRefusals.{empty_behind, moves_next}
use Rattle.bg_mat.proofs.OfReading.Refusing.{if_err, why_at}
use Rattle.bg_mat.proofs.playing.Replay.add_pending.Goals as goal

pub returns-then-stays-clause-done : goal.returns-then-stays-clause-done
returns-then-stays-clause-done c =
    replays.rolled c.args.self.now c.roll.new.self c.args.turn.line c.args.turn.player c.args.turn.dice c.requires.goes_on
    c.requires.closed c.in_ok-roll.ensures.done

pub add_empty-requires-clause-replay : goal.add_empty-requires-clause-replay
add_empty-requires-clause-replay c = c.in_ok-roll.ensures.done.adds.replay

pub add_empty-requires-clause-closed : goal.add_empty-requires-clause-closed
add_empty-requires-clause-closed c = c.in_ok-roll.ensures.done.adds.pending ∙ c.requires.closed

pub returns-clause-done : goal.returns-clause-done
returns-clause-done c =
    on_ok c.add_empty.result
    (λ more. replays.moved c.args.self.now c.roll.new.self c.add_empty.new.self c.args.turn.line c.args.turn.player
    c.args.turn.dice _ more.move c.requires.goes_on c.requires.closed c.in_ok-roll.ensures.done more.moves more.adds)
    c.add_empty.ensures.done

pub add_empty-requires-clause-moves : goal.add_empty-requires-clause-moves
add_empty-requires-clause-moves c =
    let r = c.in_ok-roll.ensures.done in
    moves_next c.args.self.now.standing c.roll.new.self.standing c.args.turn.player c.args.turn.dice r.roll r.brings r.adds.follows

pub returns-clause-fault : goal.returns-clause-fault
returns-clause-fault c =
    let r = c.in_ok-roll.ensures.done in
    if_err c.add_empty.result
    (λ fault. why_at c.args.turn.line fault
    (λ why h. inr (
      r.roll,
      c.roll.new.self.standing,
      r.brings,
      r.adds.follows,
      (
        c.if-stays.false,
        empty_behind c.args.self.now c.roll.new.self c.args.turn.line r.roll c.args.turn.player c.args.turn.dice why r.adds h,
      ),
    )))
    c.add_empty.ensures.fault
