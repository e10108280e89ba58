use Rattle.std.proofs.Common.{◌∷◌, []}
use Rattle.std.proofs.lemmas.Bool.Decides.{Decides-eqb}
use Rattle.std.proofs.lemmas.Slice.Eq.{strip_prefix_is}
use Rattle.bg_mat.proofs.OfReading.Fronts.{an_arrow, no_arrow}
use Rattle.bg_mat.proofs.OfReading.LegLemmas.{if_found}
use Rattle.bg_mat.proofs.rows.doubles.skip_arrow.Goals as goal

pub returns : goal.returns
returns c =
    let parts = c.split_blanks.ensures in
    if_found c.strip_prefix.result
    (no_arrow c.args.text.now c.split_blanks.result.0.now c.split_blanks.result.1.now parts.0 parts.1 parts.2)
    (λ rest. an_arrow c.args.text.now c.split_blanks.result.0.now c.split_blanks.result.1.now rest.now parts.0 parts.1)
    (strip_prefix_is Decides-eqb c.split_blanks.result.1.now (61 ∷ 62 ∷ []) c.strip_prefix.result c.strip_prefix.ensures.cases)
