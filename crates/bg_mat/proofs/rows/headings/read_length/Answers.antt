use Rattle.bg_mat.proofs.OfReading.HeadingLemmas.{no_length_end, no_length_word, no_number}
use Rattle.bg_mat.proofs.rows.headings.read_length.Goals as goal

pub returns-in_default : goal.returns-in_default
returns-in_default c = no_length_word c.args.line.now (rw c.in_default.is at c.split_word.ensures)

pub returns-in_default-read_number : goal.returns-in_default-read_number
returns-in_default-read_number c =
    no_number c.args.line.now c.in-Some.number.now c.in-Some.rest.now c.in-Some.ensures
    (rw c.in_default-read_number.is at c.read_number.ensures)

pub returns-else-ends_length : goal.returns-else-ends_length
returns-else-ends_length c =
    no_length_end c.args.line.now c.in-Some.number.now c.in-Some.rest.now c.in-Some.ensures
    (λ h. let t = c.ends_length.ensures.1 h in absurd (cc (t, c.if-ends_length.false)))
