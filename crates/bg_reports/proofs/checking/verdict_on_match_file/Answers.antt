use Rattle.bg_mat.proofs.OfReading.LegLemmas.{if_ok}
use Rattle.bg_reports.proofs.MatchFileVerdicts.{refused_verdict}
use Rattle.bg_reports.proofs.checking.verdict_on_match_file.Goals as goal

pub returns-in-Err : goal.returns-in-Err
returns-in-Err c =
    if_ok c.verdict_of_import_fault.result
    (λ told h. refused_verdict c.args.bytes.now told.0.items c.in-Err.fault told.1 c.in-Err.ensures.refused
    (λ long. c.in-Err.ensures.too_long.0 (cc long)) h.0 h.1)
    c.verdict_of_import_fault.ensures
