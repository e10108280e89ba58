use Rattle.bg_wire.specs.Entries.Reading.{fault_at, many_at}
use Rattle.bg_wire.specs.Entries.EntryReading.{entry_at}
use Rattle.bg_wire.proofs.Many.{passed_of, passes, stops, passed_all}
use Rattle.bg_wire.proofs.OfSaves.Replaying.{passes_not, passes_to}
use Rattle.bg_wire.proofs.saves.layouts.pass_entries.Goals as goal

pub returns-in-Err : goal.returns-in-Err
returns-in-Err c =
    let all = many_at (entry_at c.args.layout) c.args.count c.args.reader.now in
    let why = fault_at c.in-Err.fault c.entry.new.reader.at in
    rw (c.of.ensures, c.fault.ensures) (passes_not all why (stops (entry_at c.args.layout) c.args.count c.loop.counter c.loop.reader (passed_of all) why c.loop-test.true c.in-Err.ensures c.loop.invariant))

pub loop-preserved : goal.loop-preserved
loop-preserved c =
    passes (entry_at c.args.layout) c.args.count c.loop.counter c.loop.reader (passed_of (many_at (entry_at c.args.layout) c.args.count c.args.reader.now)) c.in_default.field-0 c.entry.new.reader c.loop-test.true c.in_default.ensures c.loop.invariant

pub returns : goal.returns
returns c =
    let all = many_at (entry_at c.args.layout) c.args.count c.args.reader.now in
    passes_to all c.loop.reader c.end.result (passed_all (entry_at c.args.layout) c.args.count c.loop.counter c.loop.reader (passed_of all) c.loop-test.false c.loop.invariant) c.end.ensures
