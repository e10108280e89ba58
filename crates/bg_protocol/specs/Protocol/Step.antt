-- One step of the protocol.
use Rattle.bg_protocol.specs.declared.events.Event.{Event}
use Rattle.bg_protocol.specs.declared.events.Event.TheVariants as events
use Rattle.bg_protocol.specs.declared.events.Outcome.{Outcome}
use Rattle.bg_protocol.specs.Protocol.ChooseStep.{ChooseStep}
use Rattle.bg_protocol.specs.Protocol.DueStep.{DueStep}
use Rattle.bg_protocol.specs.Protocol.Frames.{IfUp, SeatChanges}
use Rattle.bg_protocol.specs.Protocol.RestartStep.{RestartStep}
use Rattle.bg_protocol.specs.Protocol.Roles.{role}
use Rattle.bg_protocol.specs.Protocol.SaveStep.{SaveStep}
use Rattle.bg_protocol.specs.Protocol.State.{ProtocolState, seat_in}
use Rattle.bg_protocol.specs.Protocol.TakeStep.{TakeStep}
use Rattle.bg_protocol.specs.Protocol.TickStep.{TickStep}

-- From w the event may come to this outcome and leave v. What a case does not name stays.
abbrev pub Step : ProtocolState → Event → Outcome → ProtocolState → Type 0
Step w (events.Due word) o v = IfUp w.referee.up w o v (DueStep w word o v)
Step w (events.Take party pick word) o v = TakeStep w (role party) word o v
Step w (events.Choose player action) o v =
    SeatChanges w player v (λ new. IfUp (seat_in w player).up (seat_in w player) o new
    (ChooseStep w.terms player action o (seat_in w player) new))
Step w (events.Save party) o v = SaveStep w (role party) o v
Step w (events.Tick party) o v = TickStep w (role party) o v
Step w (events.Restart party) o v = RestartStep w (role party) o v
