use Rattle.bg_wire.proofs.OfSaves.DecidedSlots.{told_by, not_told}
use Rattle.bg_wire.proofs.saves.restoring.told_save.Goals as goal

pub returns-in-Ok : goal.returns-in-Ok
returns-in-Ok c p text = told_by c.args.bytes.now c.in-Ok.front _ p c.in-Ok.ensures.reads text

pub returns-in-Err : goal.returns-in-Err
returns-in-Err c p text = absurd (not_told c.args.bytes.now _ p c.in-Err.ensures.reads text)
