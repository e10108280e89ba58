use Rattle.std.proofs.Common.{Option, sym, subst}
use Rattle.bg_mat.specs.Files.{item_of, numbered}
use Rattle.bg_mat.specs.Replaying.{GoesOnBy}
use Rattle.std.specs.Prelude.{IfErr}
use Rattle.bg_mat.specs.Refusals.{AreRefusedItems, Refuses}
use Rattle.bg_mat.specs.Telling.{Does, deed_of}
use Rattle.bg_mat.specs.declared.rows.cells.Cell.{Cell}
use Rattle.bg_mat.proofs.OfReading.Refusing.{if_err, one_refused, refuses}
use Rattle.bg_mat.proofs.OfReading.Replays.{stays}
use Rattle.bg_mat.proofs.importing.row_cells.add_cell.Goals as goal

pub returns-in-None-clause-done : goal.returns-in-None-clause-done
returns-in-None-clause-done c =
    let r = c.args.replay.now in
    subst (λ (cell : Option Cell). GoesOnBy r r (numbered c.args.number (item_of c.args.player cell))) (sym c.in-None.is)
    (stays r c.requires)

pub returns-in-Some-clause-fault : goal.returns-in-Some-clause-fault
returns-in-Some-clause-fault c =
    subst (λ (cell : Option Cell). IfErr c.play.result
    (Refuses (AreRefusedItems c.args.replay.now c.args.number (item_of c.args.player cell)))) (sym c.in-Some.is)
    (if_err c.play.result
    (λ fault. refuses fault (λ number why. one_refused c.args.replay.now c.args.number
    (Does c.args.player (deed_of c.in-Some.cell)) number why c.requires))
    c.play.ensures.fault)
