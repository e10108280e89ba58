use Rattle.bg_mat.proofs.OfReading.Fronts.{no_double_name}
use Rattle.bg_mat.proofs.rows.doubles.skip_double.Goals as goal

pub returns-else-is_either : goal.returns-else-is_either
returns-else-is_either c =
    let parts = c.split_blanks.ensures in
    let name = c.split_name.ensures in
    no_double_name c.args.text.now c.split_blanks.result.0.now c.split_blanks.result.1.now c.split_name.result.0.now
    c.split_name.result.1.now parts.0 parts.1 parts.2 name.1 name.0 name.2
    (λ is. let t = c.is_either.ensures.1 is in absurd (cc (t, c.if-is_either.false)))
