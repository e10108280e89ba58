use Rattle.std.proofs.Common.{sym}
use Rattle.std.proofs.lemmas.Option.{slice_get_past}
use Rattle.bg_protocol.specs.Devices.Inboxes.{texts_from}
use Rattle.bg_protocol.proofs.Deliveries.Inboxes.{length-texts_from, text_between-few, text_read}
use Rattle.bg_protocol.proofs.devices.inboxes.Inbox.get.Goals as goal

pub returns-in_err-end-clause-text : goal.returns-in_err-end-clause-text
returns-in_err-end-clause-text c =
    let ends = c.self.inside.ends.items in
    let bytes = c.self.inside.bytes.items in
    let past = rw c.deref.ensures.value at (c.in_err-end.ensures.lookup.3) in
    let none = slice_get_past (texts_from 0 ends bytes) c.args.index (rw length-texts_from past) in
    rw (c.from_residual.ensures, ← c.self.view_is) (sym none)

pub part_of-requires-clause-rises : goal.part_of-requires-clause-rises
part_of-requires-clause-rises c =
    let read = c.in_ok-end.ensures.lookup in
    let text =
    text_read c.self.inside.ends.items c.self.inside.bytes.items c.deref.result.now c.args.index
    c.in_ok-end.field-0.now c.self.invariant c.deref.ensures.value read.3.0 read.1 in
    let start = rw c.deref-3.ensures.value at c.start_of.ensures in
    rw start text.rises

pub part_of-requires-clause-within : goal.part_of-requires-clause-within
part_of-requires-clause-within c =
    let read = c.in_ok-end.ensures.lookup in
    let text =
    text_read c.self.inside.ends.items c.self.inside.bytes.items c.deref.result.now c.args.index
    c.in_ok-end.field-0.now c.self.invariant c.deref.ensures.value read.3.0 read.1 in
    rw c.deref-2.ensures.value text.within

pub returns-clause-text : goal.returns-clause-text
returns-clause-text c =
    let read = c.in_ok-end.ensures.lookup in
    let text =
    text_read c.self.inside.ends.items c.self.inside.bytes.items c.deref.result.now c.args.index
    c.in_ok-end.field-0.now c.self.invariant c.deref.ensures.value read.3.0 read.1 in
    let start = rw c.deref-3.ensures.value at c.start_of.ensures in
    rw (c.part_of.ensures, start, c.deref-2.ensures.value, ← c.self.view_is) (sym text.found)

pub returns-clause-few : goal.returns-clause-few
returns-clause-few c =
    let read = c.in_ok-end.ensures.lookup in
    let text =
    text_read c.self.inside.ends.items c.self.inside.bytes.items c.deref.result.now c.args.index
    c.in_ok-end.field-0.now c.self.invariant c.deref.ensures.value read.3.0 read.1 in
    let start = rw c.deref-3.ensures.value at c.start_of.ensures in
    rw (c.part_of.ensures, start, c.deref-2.ensures.value) (text_between-few _ _ c.self.inside.bytes.items text.few)
