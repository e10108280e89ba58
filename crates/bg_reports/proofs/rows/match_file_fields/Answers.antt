use Rattle.bg_mat.proofs.OfReading.LegLemmas.{if_ok}
use Rattle.bg_reports.proofs.MatchFileRows.{refused_match_file_row}
use Rattle.bg_reports.proofs.rows.match_file_fields.Goals as goal

pub returns-in-Err : goal.returns-in-Err
returns-in-Err c =
    if_ok c.import_fault_row.result
    (λ told h. refused_match_file_row c.args.form c.args.bytes.now told.0.items c.in-Err.fault told.1 c.in-Err.ensures.refused
    (λ long. c.in-Err.ensures.too_long.0 (cc long)) h.0 h.1)
    c.import_fault_row.ensures
