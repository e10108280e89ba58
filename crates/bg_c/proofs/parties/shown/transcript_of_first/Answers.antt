use Rattle.std.proofs.Common.{◌+◌, arith}
use Rattle.bg_text.proofs.Judged.WrittenLines.{more_written}
use Rattle.bg_c.proofs.Shown.{first_written}
use Rattle.bg_c.proofs.parties.shown.transcript_of_first.Goals as goal

pub loop-written-preserved : goal.loop-written-preserved
loop-written-preserved c =
    more_written c.args.log.now (c.loop-written.written + 1) c.loop-written.text.items c.put_line.new.out.items c.len.ensures.legal
    (omega arith) c.loop-written.invariant c.in_ok-put_line.ensures

pub returns : goal.returns
returns c =
    first_written c.args.log.now c.args.count c.loop-written.written c.loop-written.text.items (omega (arith, c.len.ensures.value))
    c.loop-written.invariant
