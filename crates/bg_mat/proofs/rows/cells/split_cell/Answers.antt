use Rattle.std.proofs.Common.{rules}
use Rattle.std.specs.Prelude.{IfErr}
use Rattle.bg_mat.specs.Rows.RowFaults.{IsCellFault}
use Rattle.bg_mat.specs.declared.faults.MatFault.{MatFault}
use Rattle.bg_mat.proofs.OfReading.RowLemmas.{cell_beaver, cell_long_as, cell_not_one, no_cell}
use Rattle.bg_mat.proofs.rows.cells.split_cell.Goals as goal

pub returns-in_err-parts-clause-fault : goal.returns-in_err-parts-clause-fault
returns-in_err-parts-clause-fault c =
    let h : IsCellFault c.args.text.now c.in_err-parts.field-0.0 =
    cell_long_as c.args.text.now c.in_err-parts.field-0.0 c.in_err-parts.ensures.fault.0 c.in_err-parts.ensures.fault.1 in
    let passed : (P : MatFault → Type 0) → P c.in_err-parts.field-0.0 → IfErr c.from_residual.result P =
    λ P k. search (rules, k) in
    passed (IsCellFault c.args.text.now) h

pub returns-then-begins_with_beaver-clause-fault : goal.returns-then-begins_with_beaver-clause-fault
returns-then-begins_with_beaver-clause-fault c =
    cell_beaver c.args.text.now (c.begins_with_beaver.ensures.0 c.if-begins_with_beaver.true)

pub returns-clause-fault : goal.returns-clause-fault
returns-clause-fault c =
    let dice = rw c.in_default.is at c.in_ok-parts.ensures.told in
    cell_not_one c.args.text.now dice
    (no_cell c.args.text.now dice c.in_default-split_double.ensures c.in_default-split_win.ensures
    c.in_default-skip_either.ensures c.in_default-skip_either-2.ensures)
    (λ b. let t = c.begins_with_beaver.ensures.1 b in absurd (cc (t, c.if-begins_with_beaver.false)))
