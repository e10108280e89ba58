use Rattle.bg_mat.proofs.OfReading.WordLemmas.{blank_where_empty}
use Rattle.bg_mat.proofs.rows.words.is_blank_text.Goals as goal

pub returns : goal.returns
returns c =
    let e = c.split_blanks.ensures in
    blank_where_empty c.args.text.now _ _ _ e.0 e.1 e.2 c.is_empty.ensures
