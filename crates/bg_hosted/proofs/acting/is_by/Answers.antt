use Rattle.bg_hosted.proofs.Whose.{whose}
use Rattle.bg_hosted.proofs.acting.is_by.Goals as goal

pub returns : goal.returns
returns c =
    let seat = whose c.args.log.now c.args.number c.by.result c.args.player c.by.ensures.seat c.by.ensures.none in
    (λ h. seat.0 (c.is_seat.ensures.0 h), λ by. c.is_seat.ensures.1 (seat.1 by))
