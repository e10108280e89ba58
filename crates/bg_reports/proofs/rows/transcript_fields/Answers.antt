use Rattle.bg_mat.proofs.OfReading.LegLemmas.{if_ok}
use Rattle.bg_reports.proofs.TranscriptRows.{refused_transcript_row}
use Rattle.bg_reports.proofs.rows.transcript_fields.Goals as goal

pub returns-in-Err : goal.returns-in-Err
returns-in-Err c =
    if_ok c.transcript_fault_row.result
    (λ told h. refused_transcript_row c.args.form c.args.bytes.now told.0.items c.in-Err.fault told.1 c.in-Err.ensures.refused h.0 h.1)
    c.transcript_fault_row.ensures
