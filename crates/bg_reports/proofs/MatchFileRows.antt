-- What rows tell of a match file that gives no record.
use Rattle.std.specs.Prelude.{◌≡◌, ℕ, ◌<◌, List, length, Some}
use Rattle.std.proofs.Common.{refl, subst}
use Rattle.bg_match.specs.declared.limits.Rules.TheVariants as rules
use Rattle.bg_text.specs.Limits.{most_bytes}
use Rattle.bg_text.specs.declared.judging.verdicts.Verdict.{Verdict}
use Rattle.bg_text.specs.declared.judging.verdicts.Verdict.TheVariants.{Refused, TooLong}
use Rattle.bg_mat.specs.Files.{lines_in}
use Rattle.bg_mat.specs.Refusals.{IsRefusal}
use Rattle.bg_mat.specs.declared.faults.ImportFault.{ImportFault}
use Rattle.bg_mat.specs.declared.faults.ImportFault.TheVariants as import_fault
use Rattle.bg_reports.specs.Check.{import_verdict}
use Rattle.bg_reports.specs.Rows.{AreMatchFileFields, import_fault_fields}
use Rattle.bg_reports.specs.declared.rows.fields.RowForm.{RowForm}

-- the fields are those of the fault
pub refused_match_file_row : (form : RowForm) (bytes fields : List ℕ) (fault : ImportFault) (verdict : Verdict)
    → IsRefusal 0 rules.One (lines_in bytes) fault → (fault ≡ import_fault.TooLong → most_bytes < length bytes)
    → fields ≡ import_fault_fields form fault bytes → import_verdict fault ≡ Some verdict
    → AreMatchFileFields form bytes fields verdict
refused_match_file_row form bytes fields (import_fault.Refused n why) verdict refused long told is =
    let same : Refused n ≡ verdict = cc in
    subst (λ (v : Verdict). AreMatchFileFields form bytes fields v) same (why, refused, told)
refused_match_file_row form bytes fields import_fault.TooLong verdict refused long told is =
    let same : TooLong ≡ verdict = cc in
    subst (λ (v : Verdict). AreMatchFileFields form bytes fields v) same (long refl, told)
refused_match_file_row form bytes fields import_fault.Memory verdict refused long told is = absurd cc
