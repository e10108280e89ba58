use Rattle.std.proofs.Common.{◌-◌, arith}
use Rattle.bg_states.proofs.Lines.{one_more}
use Rattle.bg_states.proofs.last_lines.+put_lines.Goals as goal

pub returns : goal.returns
returns t c =
    let line = c.in_ok-put_line.ensures in
    let rest = c.in_ok-put_lines.ensures in
    one_more c.args.log.now c.args.number c.args.count (c.args.count - 1) c.args.first line.0 rest.0 c.args.out.now.items
    c.put_comma.new.out.items c.put_line.new.out.items c.put_lines.new.out.items (omega arith)
    line.1 rest.1 c.in_ok-put_comma.ensures line.2 rest.2
