use Rattle.bg_mat.proofs.OfReading.LegLemmas.{on_ok}
use Rattle.bg_mat.proofs.OfReading.Replays as replays
use Rattle.std.proofs.Common.{inr}
use Rattle.bg_match.specs.declared.entries.Entry.TheVariants as entry
use Rattle.bg_mat.proofs.OfReading.ItemRefusals.{refused_behind}
use Rattle.bg_mat.proofs.OfReading.Refusing.{if_err, why_at}
use Rattle.bg_mat.proofs.playing.Replay.resign.Goals as goal

pub returns-clause-done : goal.returns-clause-done
returns-clause-done c =
    on_ok c.add-2.result
    (λ second. replays.resigned c.args.self.now c.add.new.self c.add-2.new.self c.args.line c.args.winner c.args.won c.in-Some.level
    (rw c.opponent.ensures at (c.may_lose.ensures.0 c.if-not-may_lose.false)) c.in-Some.ensures c.in_ok-add.ensures.done second)
    c.add-2.ensures.done

pub returns-clause-fault : goal.returns-clause-fault
returns-clause-fault c =
    if_err c.add-2.result
    (λ fault. why_at c.args.line fault
    (λ why h. inr (
      rw c.opponent.ensures at (c.may_lose.ensures.0 c.if-not-may_lose.false),
      inr (
        c.in-Some.level,
        c.in-Some.ensures,
        inr (refused_behind c.args.self.now c.add.new.self c.args.line
            (entry.Resigned c.in-Some.level) entry.Accepted why c.in_ok-add.ensures.done h),
      ),
    )))
    c.add-2.ensures.fault
