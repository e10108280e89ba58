use Rattle.std.proofs.Common.{arith, sym}
use Rattle.bg_mat.proofs.OfWriting.RetoldRecords.{all_told, next_follows, none_told, one_told, there_is}
use Rattle.bg_mat.proofs.tellings.retelling.tellings_of.Goals as goal

pub loop-written-init : goal.loop-written-init
loop-written-init c =
    rw (c.new-tellings.ensures.items, c.start-standing.ensures, c.length.ensures.value, c.rules.ensures)
    (none_told c.args.log.now)

pub unwrap-entry-requires : goal.unwrap-entry-requires
unwrap-entry-requires c =
    there_is c.args.log.now.entries c.loop-written.written c.entry.result (omega (arith, c.len-written-end.ensures.value))
    c.entry.ensures

pub add_entry-requires : goal.add_entry-requires
add_entry-requires c =
    next_follows c.args.log.now c.loop-written.written c.loop-written.standing c.loop-written.tellings.items
    c.unwrap-entry.result.now c.len-written-end.ensures.legal (sym (rw c.unwrap-entry.ensures at c.entry.ensures))
    c.loop-written.invariant

pub loop-written-preserved : goal.loop-written-preserved
loop-written-preserved c =
    one_told c.args.log.now c.loop-written.written c.loop-written.standing _ c.unwrap-entry.result.now
    c.loop-written.tellings.items c.add_entry.new.tellings.items c.len-written-end.ensures.legal
    (sym (rw c.unwrap-entry.ensures at c.entry.ensures)) c.loop-written.invariant c.in_ok-standing.ensures.0
    c.in_ok-standing.ensures.1

pub returns : goal.returns
returns c =
    all_told c.args.log.now c.loop-written.written c.loop-written.standing c.loop-written.tellings.items _ c.dice_left.result
    (omega (arith, c.len-written-end.ensures.value)) c.loop-written.invariant (rw c.phase.ensures at c.dice_left.ensures)
    c.in_ok-add_telling.ensures
