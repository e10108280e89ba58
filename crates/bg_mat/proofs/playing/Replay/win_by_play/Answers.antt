use Rattle.bg_mat.proofs.OfReading.LegLemmas.{on_ok}
use Rattle.bg_mat.proofs.OfReading.Replays as replays
use Rattle.bg_mat.proofs.playing.Replay.win_by_play.Goals as goal

pub returns-clause-done : goal.returns-clause-done
returns-clause-done c =
    on_ok c.check_end.result
    (λ over. replays.won_by_play c.args.self.now c.args.line c.args.winner c.args.win.points c.args.win.ends_match
    c.requires.replay c.requires.over c.requires.closed (c.has_won.ensures.0 c.if-not-has_won.false) over)
    c.check_end.ensures.done
