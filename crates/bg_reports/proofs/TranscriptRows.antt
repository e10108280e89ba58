-- What rows tell of a transcript that gives no record.
use Rattle.std.specs.Prelude.{◌≡◌, ℕ, List, Some}
use Rattle.std.proofs.Common.{subst}
use Rattle.bg_text.specs.Judge.Transcripts.{RefusesTranscript}
use Rattle.bg_text.specs.declared.faults.TranscriptFault.{TranscriptFault}
use Rattle.bg_text.specs.declared.faults.TranscriptFault.TheVariants as transcript
use Rattle.bg_text.specs.declared.judging.verdicts.Verdict.{Verdict}
use Rattle.bg_text.specs.declared.judging.verdicts.Verdict.TheVariants.{Refused, TooLong}
use Rattle.bg_reports.specs.Check.{transcript_verdict}
use Rattle.bg_reports.specs.Rows.{AreTranscriptFields, transcript_fault_fields}
use Rattle.bg_reports.specs.declared.rows.fields.RowForm.{RowForm}

-- the fields are those of the fault
pub refused_transcript_row : (form : RowForm) (bytes fields : List ℕ) (fault : TranscriptFault) (verdict : Verdict)
    → RefusesTranscript fault bytes → fields ≡ transcript_fault_fields form fault bytes
    → transcript_verdict fault ≡ Some verdict → AreTranscriptFields form bytes fields verdict
refused_transcript_row form bytes fields (transcript.Refused n why) verdict refused told is =
    let same : Refused n ≡ verdict = cc in
    subst (λ (v : Verdict). AreTranscriptFields form bytes fields v) same (why, refused, told)
refused_transcript_row form bytes fields transcript.TooLong verdict refused told is =
    let same : TooLong ≡ verdict = cc in
    subst (λ (v : Verdict). AreTranscriptFields form bytes fields v) same (refused, told)
refused_transcript_row form bytes fields transcript.Memory verdict refused told is = absurd cc
