use Rattle.std.proofs.Common.{refl, inl, inr}
use Rattle.bg_mat.specs.Files.{items_of}
use Rattle.bg_mat.proofs.OfReading.LegLemmas.{if_ok}
use Rattle.bg_mat.specs.Files.{after_row}
use Rattle.bg_mat.proofs.OfReading.Refusing.{if_err, refuses}
use Rattle.bg_mat.proofs.OfReading.RowLemmas.{row_shape}
use Rattle.bg_mat.proofs.importing.add_row_line.Goals as goal

pub returns-in-Ok-clause-done : goal.returns-in-Ok-clause-done
returns-in-Ok-clause-done c =
    if_ok c.add_row.result
    (λ next h. (items_of c.in-Ok.row.left c.in-Ok.row.right, inr (c.in-Ok.row, c.in-Ok.ensures.told, refl, h.0), h.1))
    c.add_row.ensures.done

pub returns-in-Ok-clause-fault : goal.returns-in-Ok-clause-fault
returns-in-Ok-clause-fault c =
    if_err c.add_row.result
    (λ fault. refuses fault (λ number why h. inr (inr (
      items_of c.in-Ok.row.left c.in-Ok.row.right,
      after_row c.in-Ok.row,
      inr (c.in-Ok.row, c.in-Ok.ensures.told, refl, refl),
      h,
    ))))
    c.add_row.ensures.fault

pub returns-in-Err-clause-fault : goal.returns-in-Err-clause-fault
returns-in-Err-clause-fault c =
    rw c.refused.ensures (inl (refl, row_shape c.args.line.now c.in-Err.why c.requires.row c.in-Err.ensures.fault))
