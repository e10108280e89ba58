use Rattle.std.proofs.Common.{length, length-append}
use Rattle.bg_protocol.proofs.Deliveries.Inboxes.{AreEnds-push, texts_from-push}
use Rattle.bg_protocol.proofs.devices.inboxes.Inbox.push.Goals as goal

pub invariant_of-self-2 : goal.invariant_of-self-2
invariant_of-self-2 c =
    let bytes = c.self.inside.bytes.items in
    let end = rw c.deref.ensures.value at c.in_ok-end.ensures in
    let grown = c.in_ok-extend_from_slice.ensures.items in
    rw (grown, c.push_reserved.ensures.items, c.reserve.ensures.items, end, length-append bytes c.args.text.now)
    (AreEnds-push 0 c.self.inside.ends.items (length bytes) (length c.args.text.now) c.self.invariant c.requires)

pub returns-clause-ok : goal.returns-clause-ok
returns-clause-ok c =
    let end = rw c.deref.ensures.value at c.in_ok-end.ensures in
    let grown = c.in_ok-extend_from_slice.ensures.items in
    rw (grown, c.push_reserved.ensures.items, c.reserve.ensures.items, end, ← c.self.view_is)
    (texts_from-push 0 c.self.inside.ends.items c.self.inside.bytes.items c.args.text.now c.self.invariant)
