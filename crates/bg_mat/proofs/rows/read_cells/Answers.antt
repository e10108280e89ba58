use Rattle.std.proofs.Common.{◌≤◌, ◌<◌, arith, rules}
use Rattle.std.specs.Prelude.{IfErr}
use Rattle.bg_mat.specs.Rows.RowFaults.{AreCellsFault}
use Rattle.bg_mat.specs.Rows.Words.{IsBlankText, leading_blanks}
use Rattle.bg_mat.specs.declared.faults.MatFault.{MatFault}
use Rattle.bg_mat.proofs.OfReading.RowLemmas.{behind_refused, left_refused, right_refused}
use Rattle.bg_mat.proofs.rows.read_cells.Goals as goal

pub returns-in_err-read_cell-clause-fault : goal.returns-in_err-read_cell-clause-fault
returns-in_err-read_cell-clause-fault c =
    let solid : IsBlankText c.args.text.now → ⊥ = (λ blank. let t = c.is_blank_text.ensures.1 blank in absurd (cc (t, c.if-is_blank_text.false))) in
    let many : 16 ≤ leading_blanks c.args.text.now = omega (arith, c.count_blanks.ensures, c.if-count_blanks-ge-LEFT_COLUMN.true) in
    let h : AreCellsFault c.args.text.now c.in_err-read_cell.field-0.0 =
    right_refused c.args.text.now c.in_err-read_cell.field-0.0 solid many c.in_err-read_cell.ensures.fault in
    let passed : (P : MatFault → Type 0) → P c.in_err-read_cell.field-0.0 → IfErr c.from_residual.result P =
    λ P k. search (rules, k) in
    passed (AreCellsFault c.args.text.now) h

pub returns-in_err-first-clause-fault : goal.returns-in_err-first-clause-fault
returns-in_err-first-clause-fault c =
    let solid : IsBlankText c.args.text.now → ⊥ = (λ blank. let t = c.is_blank_text.ensures.1 blank in absurd (cc (t, c.if-is_blank_text.false))) in
    let few : leading_blanks c.args.text.now < 16 = omega (arith, c.count_blanks.ensures, c.if-count_blanks-ge-LEFT_COLUMN.false) in
    let h : AreCellsFault c.args.text.now c.in_err-first.field-0.0 =
    left_refused c.args.text.now c.in_err-first.field-0.0 solid few c.in_err-first.ensures.fault in
    let passed : (P : MatFault → Type 0) → P c.in_err-first.field-0.0 → IfErr c.from_residual-in_err-first.result P =
    λ P k. search (rules, k) in
    passed (AreCellsFault c.args.text.now) h

pub returns-in_err-read_cell-2-clause-fault : goal.returns-in_err-read_cell-2-clause-fault
returns-in_err-read_cell-2-clause-fault c =
    let solid : IsBlankText c.args.text.now → ⊥ = (λ blank. let t = c.is_blank_text.ensures.1 blank in absurd (cc (t, c.if-is_blank_text.false))) in
    let few : leading_blanks c.args.text.now < 16 = omega (arith, c.count_blanks.ensures, c.if-count_blanks-ge-LEFT_COLUMN.false) in
    let h : AreCellsFault c.args.text.now c.in_err-read_cell-2.field-0.0 =
    behind_refused c.args.text.now c.in_ok-first.rest.now c.in_ok-first.first c.in_err-read_cell-2.field-0.0 solid few
    c.in_ok-first.ensures.told
    (λ blank. let t = c.is_blank_text-2.ensures.1 blank in absurd (cc (t, c.if-is_blank_text-2.false)))
    c.in_err-read_cell-2.ensures.fault in
    let passed : (P : MatFault → Type 0) → P c.in_err-read_cell-2.field-0.0 → IfErr c.from_residual-in_err-read_cell-2.result P =
    λ P k. search (rules, k) in
    passed (AreCellsFault c.args.text.now) h
