use Rattle.std.proofs.Common.{◌≡◌, true, inr}
use Rattle.bg_mat.proofs.OfReading.LegLemmas.{if_ok}
use Rattle.bg_reports.specs.Check.{IsReadAsMatchFile}
use Rattle.bg_reports.proofs.checking.check_text.Goals as goal

pub returns-else-is_read_as_match_file : goal.returns-else-is_read_as_match_file
returns-else-is_read_as_match_file c =
    let other : IsReadAsMatchFile c.args.name.now c.args.bytes.now → ⊥ =
    (λ reads. let t : c.is_read_as_match_file.result ≡ true = c.is_read_as_match_file.ensures.1 reads in absurd (cc (t, c.if-is_read_as_match_file.false))) in
    if_ok c.said_of_transcript.result (λ checked told. inr (other, told)) c.said_of_transcript.ensures
