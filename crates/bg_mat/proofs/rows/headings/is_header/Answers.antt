use Rattle.bg_mat.specs.Rows.Headings.{IsHeaderWord}
use Rattle.bg_mat.proofs.OfReading.HeadingLemmas.{blank_by}
use Rattle.bg_mat.proofs.rows.headings.is_header.Goals as goal

pub returns-in-Some : goal.returns-in-Some
returns-in-Some c =
    blank_by IsHeaderWord c.args.line.now c.in-Some.word.now c.in-Some.field-0-1.now c.begins_header.result c.in-Some.ensures
    c.begins_header.ensures
