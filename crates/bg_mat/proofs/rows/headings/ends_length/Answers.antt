use Rattle.bg_mat.proofs.OfReading.HeadingLemmas.{length_ends, no_end_word, no_match_word}
use Rattle.bg_mat.proofs.rows.headings.ends_length.Goals as goal

pub returns-in_default : goal.returns-in_default
returns-in_default c = (
  λ t. absurd (cc (t)),
  λ h. absurd (no_end_word c.args.text.now (rw c.in_default.is at c.split_word.ensures) h),
)

pub returns-in-None : goal.returns-in-None
returns-in-None c = (
  λ t. absurd (cc (t)),
  λ h. absurd (no_match_word c.args.text.now c.in-Some.word.now c.in-Some.rest.now c.in-Some.ensures c.in-None.ensures h),
)

pub returns-then-is_points : goal.returns-then-is_points
returns-then-is_points c =
    let k = length_ends c.args.text.now c.in-Some.word.now c.in-Some.rest.now c.in-Some-skip_word.end.now
    c.in-Some.ensures c.in-Some-skip_word.ensures in (
      λ t. k.1 (c.is_points.ensures.0 c.if-is_points.true) (c.is_blank_text.ensures.0 t),
      λ h. c.is_blank_text.ensures.1 (k.0 h).1,
    )

pub returns-else-is_points : goal.returns-else-is_points
returns-else-is_points c =
    let k = length_ends c.args.text.now c.in-Some.word.now c.in-Some.rest.now c.in-Some-skip_word.end.now
    c.in-Some.ensures c.in-Some-skip_word.ensures in
    (λ t. absurd (cc (t, c.if-is_points.false)), λ h. c.is_points.ensures.1 (k.0 h).0)
