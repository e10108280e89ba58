use Rattle.std.proofs.Common.{arith}
use Rattle.bg_c.proofs.EntryLines.{all_lines, more_lines}
use Rattle.bg_c.proofs.entry_lines.lines_text.Goals as goal

pub loop-line-preserved : goal.loop-line-preserved
loop-line-preserved c =
    more_lines c.args.log.now c.args.skipped c.loop-line.line c.loop-line.text.items c.put_line.new.out.items c.loop-line.invariant
    c.in_ok-put_line.ensures

pub returns : goal.returns
returns c =
    all_lines c.args.log.now c.args.skipped c.args.count c.loop-line.line c.loop-line.text.items c.len.ensures.legal (omega arith)
    c.loop-line.invariant
