use Rattle.bg_mat.proofs.OfReading.LegLemmas.{on_ok}
use Rattle.bg_mat.proofs.OfReading.Replays as replays
use Rattle.std.proofs.Common.{inl, inr}
use Rattle.bg_mat.proofs.OfReading.Refusing.{if_err, why_at}
use Rattle.bg_mat.proofs.playing.Replay.win_by_offer.Goals as goal

pub returns-clause-done : goal.returns-clause-done
returns-clause-done c =
    on_ok c.check_end.result
    (λ over. replays.won_by_offer c.args.self.now c.resign.new.self c.args.line c.args.winner c.args.win.points c.args.win.ends_match
    c.requires.goes_on c.requires.closed c.in_ok-resign.ensures.done over)
    c.check_end.ensures.done

pub returns-clause-fault : goal.returns-clause-fault
returns-clause-fault c =
    let r = c.in_ok-resign.ensures.done in
    if_err c.check_end.result
    (λ fault. why_at c.args.line fault
    (λ why h. inl (c.requires.goes_on, inr (r.level, c.resign.new.self.standing, r.worth, r.leads, h))))
    c.check_end.ensures.fault
