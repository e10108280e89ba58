use Rattle.bg_table.proofs.Latest.{made_by}
use Rattle.bg_table.proofs.last_entries.is_by.Goals as goal

pub returns : goal.returns
returns c =
    made_by c.args.log.now c.args.player c.args.number c.by.result c.is_seat.result c.requires.first c.requires.last
    (c.by.ensures.seat c.requires.first c.requires.last) c.is_seat.ensures
