use Rattle.std.proofs.Common.{◌∙◌}
use Rattle.bg_match.specs.declared.entries.Entry.TheVariants as entry
use Rattle.bg_mat.proofs.OfReading.LegLemmas.{on_ok}
use Rattle.bg_mat.proofs.OfReading.Replays.{moved}
use Rattle.std.proofs.Common.{inr}
use Rattle.bg_mat.proofs.OfReading.ItemRefusals.{refused_behind}
use Rattle.bg_mat.proofs.OfReading.Refusing.{if_err, why_at}
use Rattle.bg_mat.proofs.playing.Replay.turn.Goals as goal

pub add-requires-clause-replay : goal.add-requires-clause-replay
add-requires-clause-replay c = c.in_ok-roll.ensures.done.adds.replay

pub add-requires-clause-closed : goal.add-requires-clause-closed
add-requires-clause-closed c = c.in_ok-roll.ensures.done.adds.pending ∙ c.requires.closed

pub returns-clause-done : goal.returns-clause-done
returns-clause-done c =
    on_ok c.add.result
    (λ added. moved c.args.self.now c.roll.new.self c.add.new.self c.args.line c.args.player c.args.dice c.args.legs.now.items
    (entry.Moved c.in_ok-turn.turn) c.requires.goes_on c.requires.closed c.in_ok-roll.ensures.done c.in_ok-turn.ensures.done added)
    c.add.ensures.done

pub returns-clause-fault : goal.returns-clause-fault
returns-clause-fault c =
    let r = c.in_ok-roll.ensures.done in
    if_err c.add.result
    (λ fault. why_at c.args.line fault
    (λ why h. inr (
      r.roll,
      c.roll.new.self.standing,
      r.brings,
      r.adds.follows,
      inr (
        c.in_ok-turn.turn,
        c.in_ok-turn.ensures.done,
        refused_behind c.args.self.now c.roll.new.self c.args.line r.roll (entry.Moved c.in_ok-turn.turn) why r.adds h,
      ),
    )))
    c.add.ensures.fault
