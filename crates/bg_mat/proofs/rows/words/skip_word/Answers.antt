use Rattle.bg_mat.proofs.OfReading.HeadingLemmas.{no_says, other_said}
use Rattle.bg_mat.proofs.rows.words.skip_word.Goals as goal

pub returns-in_default : goal.returns-in_default
returns-in_default c =
    λ rest h. no_says c.args.text.now c.args.expected.now rest (rw c.in_default.is at c.split_word.ensures) h

pub returns-else-eq_ignore_ascii_case : goal.returns-else-eq_ignore_ascii_case
returns-else-eq_ignore_ascii_case c =
    λ rest h. other_said c.args.text.now c.in-Some.word.now c.in-Some.rest.now c.args.expected.now rest
    c.eq_ignore_ascii_case.result c.in-Some.ensures c.eq_ignore_ascii_case.ensures.test c.if-eq_ignore_ascii_case.false h
