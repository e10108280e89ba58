use Rattle.std.proofs.Common.{sym}
use Rattle.bg_text.proofs.Judged.WrittenLines.{seat_of_entry}
use Rattle.bg_text.proofs.transcripts.put_line.Goals as goal

pub put_entry-requires-clause-seat : goal.put_entry-requires-clause-seat
put_entry-requires-clause-seat c =
    seat_of_entry c.args.log.now.terms c.args.log.now.entries c.args.number c.by.result c.unwrap-entry.result.now
    c.requires.legal c.requires.first (c.by.ensures.seat c.requires.first c.requires.last) (sym (rw c.unwrap-entry.ensures at c.entry.ensures))
