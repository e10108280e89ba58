use Rattle.std.proofs.Common.{◌≡◌, Some}
use Rattle.bg_mat.proofs.OfReading.ItemRefusals.{closed_so, on_both}
use Rattle.bg_mat.proofs.OfReading.Replays.{closed_by}
use Rattle.bg_mat.proofs.playing.Replay.close.Goals as goal

pub returns-in-Some-clause-done : goal.returns-in-Some-clause-done
returns-in-Some-clause-done c =
    let is : c.args.self.now.pending ≡ Some c.in-Some.turn = cc (c.take.ensures.value, c.in-Some.is) in
    let played = rw c.take.ensures.after at c.add_pending.ensures.done in
    on_both c.add_pending.result
    (λ p m. closed_so c.args.self.now c.add_pending.new.self c.in-Some.turn c.args.stays is
    (closed_by c.args.self.now c.add_pending.new.self c.in-Some.turn is p) m) played c.add_pending.ensures.many
