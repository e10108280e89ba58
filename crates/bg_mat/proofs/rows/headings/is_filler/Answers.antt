use Rattle.bg_mat.specs.Rows.Headings.{IsComment}
use Rattle.bg_mat.proofs.OfReading.HeadingLemmas.{blank_by}
use Rattle.bg_mat.proofs.rows.headings.is_filler.Goals as goal

pub returns-in-Some : goal.returns-in-Some
returns-in-Some c =
    blank_by IsComment c.args.line.now c.in-Some.word.now c.in-Some.field-0-1.now c.is_comment.result c.in-Some.ensures
    c.is_comment.ensures
