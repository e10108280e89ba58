use Rattle.bg_mat.proofs.OfReading.LegLemmas.{if_ok}
use Rattle.bg_reports.proofs.TranscriptVerdicts.{refused_transcript}
use Rattle.bg_reports.proofs.checking.verdict_on_transcript.Goals as goal

pub returns-in-Err : goal.returns-in-Err
returns-in-Err c =
    if_ok c.verdict_of_transcript_fault.result
    (λ told h. refused_transcript c.args.bytes.now told.0.items c.in-Err.fault told.1 c.in-Err.ensures.refused h.0 h.1)
    c.verdict_of_transcript_fault.ensures
