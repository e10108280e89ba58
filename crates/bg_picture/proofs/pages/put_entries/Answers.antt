use Rattle.std.proofs.Common.{◌+◌, arith, sym}
use Rattle.bg_picture.proofs.Listed.{next_follows, more_listed, all_listed}
use Rattle.bg_picture.proofs.pages.put_entries.Goals as goal

pub put_entry-requires : goal.put_entry-requires
put_entry-requires c =
    next_follows c.args.log.now (c.loop-written.written + 1) _ c.loop-written.standing _ c.unwrap-entry.result.now
    c.len-written-end.ensures.legal (omega arith) c.loop-written.invariant (sym (rw c.unwrap-entry.ensures at c.entry.ensures))

pub loop-written-preserved : goal.loop-written-preserved
loop-written-preserved c =
    more_listed c.args.log.now (c.loop-written.written + 1) _ c.loop-written.standing c.loop-written.out.items
    c.unwrap-entry.result.now _ c.put_entry.new.out.items c.len-written-end.ensures.legal (omega arith) (omega arith)
    c.loop-written.invariant (sym (rw c.unwrap-entry.ensures at c.entry.ensures))
    c.in_ok-standing.ensures.0 c.in_ok-standing.ensures.1

pub returns : goal.returns
returns c =
    all_listed c.args.log.now (c.loop-written.written + 1) _ _ c.loop-written.out.items (omega (arith, c.len-written-end.ensures.value))
    c.loop-written.invariant
