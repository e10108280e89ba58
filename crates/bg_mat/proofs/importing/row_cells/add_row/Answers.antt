use Rattle.bg_mat.proofs.OfReading.Readings.{both_cells}
use Rattle.std.proofs.Common.{◌++◌, rules}
use Rattle.bg_board.specs.declared.players.Player.TheVariants.{X, O}
use Rattle.bg_mat.specs.Files.{item_of}
use Rattle.bg_mat.specs.Refusals.{AreRefusedItems, Refuses}
use Rattle.bg_mat.proofs.OfReading.Refusing.{first_refused, refuses, second_refused}
use Rattle.bg_mat.proofs.importing.row_cells.add_row.Goals as goal

pub returns-clause-done : goal.returns-clause-done
returns-clause-done c = (
  c.awaited_behind-next.ensures,
  both_cells c.args.replay.now c.add_cell.new.replay c.add_cell-2.new.replay c.args.number _ _ c.in_ok-add_cell.ensures.done
      c.in_ok-add_cell-2.ensures.done,
)

pub returns-in_err-add_cell-clause-fault : goal.returns-in_err-add_cell-clause-fault
returns-in_err-add_cell-clause-fault c =
    let r = c.args.replay.now in
    let a = item_of X c.args.row.left in
    let b = item_of O c.args.row.right in
    let h : Refuses (AreRefusedItems r c.args.number (a ++ b)) c.in_err-add_cell.field-0.0 =
    refuses c.in_err-add_cell.field-0.0 (λ number why. first_refused r c.args.number a b number why) c.in_err-add_cell.ensures.fault in
    search (rules, h)

pub returns-in_err-add_cell-2-clause-fault : goal.returns-in_err-add_cell-2-clause-fault
returns-in_err-add_cell-2-clause-fault c =
    let r = c.args.replay.now in
    let a = item_of X c.args.row.left in
    let b = item_of O c.args.row.right in
    let h : Refuses (AreRefusedItems r c.args.number (a ++ b)) c.in_err-add_cell-2.field-0.0 =
    refuses c.in_err-add_cell-2.field-0.0
    (λ number why. second_refused r c.add_cell.new.replay c.args.number a b number why c.in_ok-add_cell.ensures.done)
    c.in_err-add_cell-2.ensures.fault in
    search (rules, h)
