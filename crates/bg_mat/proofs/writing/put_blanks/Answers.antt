use Rattle.bg_mat.proofs.OfReading.Parts.{blank_more}
use Rattle.bg_mat.proofs.writing.put_blanks.Goals as goal

pub loop-written-preserved : goal.loop-written-preserved
loop-written-preserved c =
    blank_more c.loop-written.written c.args.out.now.items c.loop-written.out.items c.put_text.new.out.items
    c.loop-written.invariant c.in_ok-put_text.ensures
