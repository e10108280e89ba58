use Rattle.std.proofs.Common.{arith, length-append}
use Rattle.std.proofs.lemmas.Result.{err_from_is_err_and}
use Rattle.bg_board.specs.FromTo.{FromTo}
use Rattle.bg_wire.specs.Entries.Reading.{fault_at, many_at}
use Rattle.bg_wire.specs.Entries.EntryReading.{step_at}
use Rattle.bg_wire.proofs.Many.{goes_on, ends, is_done}
use Rattle.bg_wire.proofs.entries.entry_reading.steps.Goals as goal

pub returns-in_err-step : goal.returns-in_err-step
returns-in_err-step c =
    let p = err_from_is_err_and c.from_residual.result c.from_residual.ensures.1 in
    rw (p.1, p.2) (ends step_at c.loop.turn c.args.count c.loop.counter c.loop.reader (many_at step_at c.args.count c.args.reader.now) (fault_at c.in_err-step.field-0.0 c.step.new.reader.at) c.loop-test.true c.in_err-step.ensures c.loop.invariant.read)

pub loop-preserved : goal.loop-preserved
loop-preserved c = record {
  read = rw c.push.ensures (goes_on step_at c.loop.turn c.args.count c.loop.counter c.loop.reader (many_at step_at c.args.count c.args.reader.now) c.in_ok-step.field-0 c.step.new.reader c.loop-test.true c.in_ok-step.ensures c.loop.invariant.read);
  len = rw c.push.ensures (omega (arith, length-append {A = FromTo}, c.loop.invariant.len));
}

pub returns : goal.returns
returns c = is_done step_at c.loop.turn c.args.count c.loop.counter c.loop.reader (many_at step_at c.args.count c.args.reader.now) c.loop-test.false c.loop.invariant.read
