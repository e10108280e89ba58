use Rattle.bg_mat.proofs.OfReading.LegLemmas.{on_ok}
use Rattle.bg_mat.proofs.playing.Replay.roll.Goals as goal

pub returns-in-Ok-clause-done : goal.returns-in-Ok-clause-done
returns-in-Ok-clause-done c =
    on_ok c.add.result (λ added. record { roll = c.in-Ok.entry; brings = c.in-Ok.ensures.brings; adds = added }) c.add.ensures.done
