-- What is said of a match file that gives no record.
use Rattle.std.specs.Prelude.{◌≡◌, ℕ, ◌<◌, List, length, Some}
use Rattle.std.proofs.Common.{refl, subst}
use Rattle.bg_match.specs.declared.limits.Rules.TheVariants as rules
use Rattle.bg_text.specs.Limits.{most_bytes}
use Rattle.bg_text.specs.declared.judging.verdicts.Verdict.{Verdict}
use Rattle.bg_text.specs.declared.judging.verdicts.Verdict.TheVariants.{Refused, TooLong}
use Rattle.bg_mat.specs.FaultWords.{import_fault_words}
use Rattle.bg_mat.specs.Files.{lines_in}
use Rattle.bg_mat.specs.Refusals.{IsRefusal}
use Rattle.bg_mat.specs.declared.faults.ImportFault.{ImportFault}
use Rattle.bg_mat.specs.declared.faults.ImportFault.TheVariants as import_fault
use Rattle.bg_reports.specs.Check.{ImportFaultsAreSaid, IsMatchFileVerdict, import_verdict}

-- the verdict is that of the fault
pub refused_verdict : (bytes words : List ℕ) (fault : ImportFault) (verdict : Verdict)
    → IsRefusal 0 rules.One (lines_in bytes) fault → (fault ≡ import_fault.TooLong → most_bytes < length bytes)
    → words ≡ import_fault_words fault → import_verdict fault ≡ Some verdict → IsMatchFileVerdict bytes words verdict
refused_verdict bytes words (import_fault.Refused n why) verdict refused long said is =
    let same : Refused n ≡ verdict = cc in subst (λ (v : Verdict). IsMatchFileVerdict bytes words v) same (why, refused, said)
refused_verdict bytes words import_fault.TooLong verdict refused long said is =
    let same : TooLong ≡ verdict = cc in subst (λ (v : Verdict). IsMatchFileVerdict bytes words v) same (long refl, said)
refused_verdict bytes words import_fault.Memory verdict refused long said is = absurd cc

pub import_said : ImportFaultsAreSaid
import_said name bytes fault columns text verdict refused long said =
    (import_fault_words fault, refused_verdict bytes (import_fault_words fault) fault verdict refused long refl said.0, said.1)
