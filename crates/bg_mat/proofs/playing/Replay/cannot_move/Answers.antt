use Rattle.std.proofs.Common.{inr}
use Rattle.bg_mat.proofs.OfReading.LegLemmas.{on_ok}
use Rattle.bg_mat.proofs.OfReading.Replays as replays
use Rattle.bg_mat.proofs.OfReading.ItemRefusals.{empty_behind, moves_next}
use Rattle.bg_mat.proofs.OfReading.Refusing.{if_err, why_at}
use Rattle.bg_mat.proofs.playing.Replay.cannot_move.Goals as goal

pub add_empty-requires-clause-moves : goal.add_empty-requires-clause-moves
add_empty-requires-clause-moves c =
    let r = c.in_ok-roll.ensures.done in
    moves_next c.args.self.now.standing c.roll.new.self.standing c.args.player c.args.dice r.roll r.brings r.adds.follows

pub returns-clause-done : goal.returns-clause-done
returns-clause-done c =
    on_ok c.add_empty.result
    (λ more. replays.not_moved c.args.self.now c.roll.new.self c.add_empty.new.self c.args.line c.args.player
    c.args.dice more.move c.requires.goes_on c.requires.closed c.in_ok-roll.ensures.done more.moves more.adds)
    c.add_empty.ensures.done

pub returns-clause-fault : goal.returns-clause-fault
returns-clause-fault c =
    let r = c.in_ok-roll.ensures.done in
    if_err c.add_empty.result
    (λ fault. why_at c.args.line fault
    (λ why h. inr (
      r.roll,
      c.roll.new.self.standing,
      r.brings,
      r.adds.follows,
      empty_behind c.args.self.now c.roll.new.self c.args.line r.roll c.args.player c.args.dice why r.adds h,
    )))
    c.add_empty.ensures.fault
