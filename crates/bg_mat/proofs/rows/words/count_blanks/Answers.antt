use Rattle.std.proofs.Common.{sym, ◌∙◌, ap, List, ℕ}
use Rattle.bg_mat.specs.Rows.Words.{leading_blanks}
use Rattle.bg_mat.proofs.OfReading.WordLemmas.{count_leading}
use Rattle.bg_mat.proofs.rows.words.count_blanks.Goals as goal

pub returns : goal.returns
returns c =
    let e = c.split_blanks.ensures in
    sym (ap (λ (t : List ℕ). leading_blanks t) e.1 ∙ count_leading _ _ e.0 e.2)
