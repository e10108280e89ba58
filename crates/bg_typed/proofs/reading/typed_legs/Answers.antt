use Rattle.bg_typed.specs.Spelling.{spelled}
use Rattle.bg_typed.specs.TypedWords.{SkipsMove}
use Rattle.bg_typed.proofs.ReadWords.{not_told, too_many_told}
use Rattle.bg_typed.proofs.reading.typed_legs.Goals as goal

pub returns-in-Ok-clause-told : goal.returns-in-Ok-clause-told
returns-in-Ok-clause-told c =
    let skips : SkipsMove (spelled c.args.typed.now) c.skip_move.result.now =
    rw (c.deref.ensures.value, c.in_ok-text.ensures) at c.skip_move.ensures in
    (c.skip_move.result.now, skips, c.in-Ok.ensures.told)

pub returns-in-Err-NotAMovement-clause-fault : goal.returns-in-Err-NotAMovement-clause-fault
returns-in-Err-NotAMovement-clause-fault c =
    not_told c.args.typed.now c.skip_move.result.now
    (rw (c.deref.ensures.value, c.in_ok-text.ensures) at c.skip_move.ensures)
    (rw c.in-Err-NotAMovement.field-0-is at c.in-Err-NotAMovement.ensures.fault)

pub returns-clause-fault : goal.returns-clause-fault
returns-clause-fault c =
    too_many_told c.args.typed.now c.skip_move.result.now
    (rw (c.deref.ensures.value, c.in_ok-text.ensures) at c.skip_move.ensures)
    (rw c.in-Err-TooMany.field-0-is at c.in-Err-TooMany.ensures.fault)
