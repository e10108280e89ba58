use Rattle.std.proofs.Common.{refl}
use Rattle.bg_mat.proofs.OfReading.HeadingLemmas.{header_by}
use Rattle.bg_mat.proofs.rows.headings.begins_header.Goals as goal

pub returns-in-59 : goal.returns-in-59
returns-in-59 c =
    (λ t. header_by c.args.word.now c.in-Some.field-0-1.now c.in-Some.first.now c.in-Some.ensures.cases.0 c.in-59.is, λ h. refl)
