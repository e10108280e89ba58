use Rattle.std.proofs.Common.{[], ◌∷◌}
use Rattle.bg_mat.specs.Telling.{Does, deed_of}
use Rattle.bg_mat.proofs.OfReading.LegLemmas.{on_ok}
use Rattle.bg_mat.proofs.OfReading.Replays.{goes_on_twice}
use Rattle.bg_mat.proofs.OfReading.ItemRefusals.{item_refused}
use Rattle.bg_mat.proofs.OfReading.Refusing.{if_err}
use Rattle.bg_mat.proofs.playing.Replay.play.Goals as goal

pub returns-clause-done : goal.returns-clause-done
returns-clause-done c =
    on_ok c.play_next.result
    (λ next. goes_on_twice c.args.self.now c.close.new.self c.play_next.new.self []
    (record { line = c.args.line; item = Does c.args.player (deed_of c.args.cell) } ∷ []) c.in_ok-close.ensures.done.0.0 next)
    c.play_next.ensures.done

pub returns-clause-fault : goal.returns-clause-fault
returns-clause-fault c =
    if_err c.play_next.result
    (λ fault. item_refused c.args.self.now c.close.new.self c.args.line (Does c.args.player (deed_of c.args.cell))
    c.stays_before-stays.result fault c.stays_before-stays.ensures c.in_ok-close.ensures.done)
    c.play_next.ensures.fault
