use Rattle.std.proofs.Common.{refl}
use Rattle.bg_mat.proofs.OfReading.LegLemmas.{if_ok, more_movement}
use Rattle.bg_mat.proofs.OfReading.Refusing.{if_err}
use Rattle.bg_mat.proofs.OfReading.RowLemmas.{many_behind, movement_ends, no_word_ends, too_many_here}
use Rattle.bg_mat.proofs.rows.cells.+split_movement.Goals as goal

pub returns-in_default-clause-all : goal.returns-in_default-clause-all
returns-in_default-clause-all t c = no_word_ends c.args.text.now c.in_default.ensures

pub returns-in-Ok-clause-told : goal.returns-in-Ok-clause-told
returns-in-Ok-clause-told t c =
    if_ok c.split_movement.result
    (λ rest. more_movement _ _ _ _ _ _ _ c.in-Some.ensures c.in-Ok.ensures.added)
    c.split_movement.ensures.told

pub returns-in-Ok-clause-fault : goal.returns-in-Ok-clause-fault
returns-in-Ok-clause-fault t c =
    if_err c.split_movement.result
    (λ why h. (
      h.0,
      many_behind c.args.text.now c.in-Some.word.now c.in-Some.rest.now c.args.legs.now.items c.add_word.new.legs.items
          c.in-Some.ensures c.in-Ok.ensures.added h.1,
    ))
    c.split_movement.ensures.fault

pub returns-in-Err-NotAMovement-clause-all : goal.returns-in-Err-NotAMovement-clause-all
returns-in-Err-NotAMovement-clause-all t c =
    movement_ends c.args.text.now c.in-Some.word.now c.in-Some.rest.now c.in-Some.ensures
    (rw c.in-Err-NotAMovement.field-0-is at c.in-Err-NotAMovement.ensures.fault)

pub returns-in-Err-TooMany-clause-fault : goal.returns-in-Err-TooMany-clause-fault
returns-in-Err-TooMany-clause-fault t c = (
  refl,
  too_many_here c.args.text.now c.in-Some.word.now c.in-Some.rest.now c.args.legs.now.items c.in-Some.ensures
      (rw c.in-Err-TooMany.field-0-is at c.in-Err-TooMany.ensures.fault),
)
