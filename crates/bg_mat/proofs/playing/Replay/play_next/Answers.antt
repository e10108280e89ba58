use Rattle.std.proofs.Common.{ap}
use Rattle.bg_mat.specs.Telling.{deed_of}
use Rattle.bg_mat.proofs.OfReading.LegLemmas.{on_ok}
use Rattle.bg_mat.proofs.OfReading.Replays.{item_of_cell}
use Rattle.bg_mat.proofs.playing.Replay.play_next.Goals as goal

pub returns-in-Wins-clause-done : goal.returns-in-Wins-clause-done
returns-in-Wins-clause-done c =
    on_ok c.win.result
    (λ played. item_of_cell c.args.self.now c.win.new.self c.args.line c.args.player c.args.cell _ (ap deed_of c.in-Wins.is)
    c.requires.closed played)
    c.win.ensures.done
