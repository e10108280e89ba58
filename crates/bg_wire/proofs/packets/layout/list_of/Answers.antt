use Rattle.bg_wire.specs.declared.saves.layouts.Layout.TheVariants.{Two}
use Rattle.std.proofs.Common.{arith}
use Rattle.std.proofs.lemmas.Result.{err_from_is_err_and}
use Rattle.bg_wire.specs.Entries.Reading.{fault_at, many_at}
use Rattle.bg_wire.specs.Entries.EntryReading.{entry_at}
use Rattle.bg_wire.proofs.Many.{goes_on, ends, is_done}
use Rattle.bg_wire.proofs.packets.layout.list_of.Goals as goal

pub returns-in_err-entry : goal.returns-in_err-entry
returns-in_err-entry c =
    let p = err_from_is_err_and c.from_residual.result c.from_residual.ensures.1 in
    rw (p.1, p.2) (ends (entry_at Two) c.loop.entries.items c.args.count c.loop.counter c.loop.reader (many_at (entry_at Two) c.args.count c.args.reader.now) (fault_at c.in_err-entry.field-0.0 c.entry.new.reader.at) c.loop-test.true c.in_err-entry.ensures c.loop.invariant.read)

pub loop-preserved : goal.loop-preserved
loop-preserved c = record {
  read = rw c.push.ensures.items (goes_on (entry_at Two) c.loop.entries.items c.args.count c.loop.counter c.loop.reader (many_at (entry_at Two) c.args.count c.args.reader.now) c.in_ok-entry.field-0 c.entry.new.reader c.loop-test.true c.in_ok-entry.ensures c.loop.invariant.read);
  len = omega arith;
}

pub returns : goal.returns
returns c = is_done (entry_at Two) c.loop.entries.items c.args.count c.loop.counter c.loop.reader (many_at (entry_at Two) c.args.count c.args.reader.now) c.loop-test.false c.loop.invariant.read
