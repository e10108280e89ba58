use Rattle.std.proofs.Common.{◌∙◌, arith}
use Rattle.bg_mat.proofs.OfReading.ScoreLemmas.{begins_score, no_score}
use Rattle.bg_mat.proofs.rows.headings.begins_with_score.Goals as goal

pub returns-in-Some : goal.returns-in-Some
returns-in-Some c =
    let parts = c.split_blanks-parts.ensures in
    begins_score c.ends_word.result c.args.text.now _ _ c.in-Some.rest.now c.as_bytes.result.now c.args.score (omega arith)
    parts.0 parts.1 parts.2 c.in-Some.ensures (c.as_bytes.ensures.value ∙ c.format.ensures.text) c.ends_word.ensures

pub returns-in-None : goal.returns-in-None
returns-in-None c =
    let parts = c.split_blanks-parts.ensures in (
      λ t. absurd (cc (t)),
      λ h. absurd (no_score c.args.text.now _ _ c.as_bytes.result.now c.args.score (omega arith) parts.0 parts.1 parts.2
          (c.as_bytes.ensures.value ∙ c.format.ensures.text) c.in-None.ensures h),
    )
