use Rattle.std.proofs.Common.{◌≤◌, length}
use Rattle.bg_mat.proofs.OfReading.RowLemmas.{no_dice}
use Rattle.bg_mat.proofs.rows.cells.split_turn.Goals as goal

pub returns-in_default-clause-told : goal.returns-in_default-clause-told
returns-in_default-clause-told c = no_dice c.args.text.now (rw c.in_default.is at c.split_dice.ensures)

pub returns-clause-told : goal.returns-clause-told
returns-clause-told c =
    let (more, tells, is) = rw c.new-legs.ensures at c.in_ok-rest.ensures.told in
    let fits : length c.split_movement.new.legs.items ≤ 4 = rw c.as_slice-legs.ensures.value at c.as_slice-legs.ensures.fits in (
      c.in-Some.text.now,
      c.in-Some.ensures,
      λ rest. (c.in_default-skip_cannot_move.ensures rest, c.in_default-skip_unknown.ensures rest),
      rw is tells,
      fits,
      c.in_ok-rest.ensures.all,
    )
