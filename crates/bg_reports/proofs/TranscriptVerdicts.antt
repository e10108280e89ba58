-- What is said of a transcript that gives no record.
use Rattle.std.specs.Prelude.{◌≡◌, ℕ, List, Some}
use Rattle.std.proofs.Common.{refl, subst}
use Rattle.bg_text.specs.Judge.Transcripts.{RefusesTranscript, transcript_fault_words}
use Rattle.bg_text.specs.declared.faults.TranscriptFault.{TranscriptFault}
use Rattle.bg_text.specs.declared.faults.TranscriptFault.TheVariants as transcript
use Rattle.bg_text.specs.declared.judging.verdicts.Verdict.{Verdict}
use Rattle.bg_text.specs.declared.judging.verdicts.Verdict.TheVariants.{Refused, TooLong}
use Rattle.bg_reports.specs.Check.{IsTranscriptVerdict, TranscriptFaultsAreSaid, transcript_verdict}

-- the verdict is that of the fault
pub refused_transcript : (bytes words : List ℕ) (fault : TranscriptFault) (verdict : Verdict) → RefusesTranscript fault bytes
    → words ≡ transcript_fault_words fault → transcript_verdict fault ≡ Some verdict → IsTranscriptVerdict bytes words verdict
refused_transcript bytes words (transcript.Refused n why) verdict refused said is =
    let same : Refused n ≡ verdict = cc in subst (λ (v : Verdict). IsTranscriptVerdict bytes words v) same (why, refused, said)
refused_transcript bytes words transcript.TooLong verdict refused said is =
    let same : TooLong ≡ verdict = cc in subst (λ (v : Verdict). IsTranscriptVerdict bytes words v) same (refused, said)
refused_transcript bytes words transcript.Memory verdict refused said is = absurd cc

pub transcript_said : TranscriptFaultsAreSaid
transcript_said name bytes fault columns text verdict refused said =
    (transcript_fault_words fault, refused_transcript bytes (transcript_fault_words fault) fault verdict refused refl said.0, said.1)
