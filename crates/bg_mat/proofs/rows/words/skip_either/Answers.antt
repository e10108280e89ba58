use Rattle.std.proofs.Common.{inr}
use Rattle.bg_mat.proofs.OfReading.HeadingLemmas.{neither}
use Rattle.bg_mat.proofs.OfReading.LegLemmas.{if_found}
use Rattle.bg_mat.proofs.rows.words.skip_either.Goals as goal

pub returns-in-None : goal.returns-in-None
returns-in-None c =
    if_found c.skip_word-in-None.result
    (λ none. neither c.args.text.now c.args.one.now c.args.other.now c.in-None.ensures none)
    (λ rest f. inr f) c.skip_word-in-None.ensures
