use Rattle.std.proofs.Common.{length, sym, ap, ◌∙◌}
use Rattle.bg_protocol.proofs.Deliveries.Inboxes.{length-texts_from}
use Rattle.bg_protocol.proofs.devices.inboxes.Inbox.len.Goals as goal

pub returns : goal.returns
returns c =
    let texts = length-texts_from 0 c.self.inside.ends.items c.self.inside.bytes.items in
    rw (← c.self.view_is) (ap length c.as_slice.ensures.value ∙ sym texts)
