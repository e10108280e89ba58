use Rattle.std.proofs.Common.{arith}
use Rattle.bg_mat.proofs.OfWriting.WrittenFiles.{record_written}
use Rattle.bg_mat.proofs.exporting.export_mat.Goals as goal

pub returns : goal.returns
returns c =
    record_written c.args.log.now c.length.result c.in_ok-tellings.tellings.items c.put_length.new.out.items
    c.put_tellings.new.out.items c.length.ensures.value (omega (arith, c.length.ensures.longest)) c.in_ok-tellings.ensures
    (rw c.new-out.ensures.items at c.in_ok-put_length.ensures)
    (rw c.as_slice.ensures.value at c.in_ok-put_tellings.ensures)
