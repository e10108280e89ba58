use Rattle.std.proofs.Common.{ℕ, ap}
use Rattle.bg_mat.proofs.OfReading.Replays.{scored}
use Rattle.bg_mat.proofs.playing.Replay.tell_scores.Goals as goal

pub returns-clause-done : goal.returns-clause-done
returns-clause-done c =
    let scores = c.score-x.result in
    record {
      x = scores.0;
      o = scores.1;
      scores = c.has_scores.ensures.0 c.if-not-has_scores.false;
      goes = scored c.args.self.now c.args.number scores c.requires.replay c.requires.closed
          (ap (λ (p : ℕ × ℕ). p.0) c.score-x.ensures) (ap (λ (p : ℕ × ℕ). p.1) c.score-x.ensures);
    }
