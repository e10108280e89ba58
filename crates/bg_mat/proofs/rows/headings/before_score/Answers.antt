use Rattle.std.proofs.Common.{List, ℕ, [], sym, ap, ◌∙◌, arith, ◌++◌}
use Rattle.bg_mat.proofs.OfReading.ScoreLemmas.{before_colon, front_of_score}
use Rattle.bg_mat.proofs.rows.headings.before_score.Goals as goal

pub returns-in_default : goal.returns-in_default
returns-in_default c = λ f h.
    let parts = c.trim_end-scored.ensures in
    let digits = c.as_bytes.ensures.value ∙ c.format.ensures.text in
    let found = (front_of_score c.args.text.now _ _ [] [] [] f c.args.score (omega arith) parts.cut.0 parts.cut.1 parts.solid h).1 in
    (rw c.in_default.is at c.front_before.ensures) found.0 (found.1 ∙ ap (λ (d : List ℕ). found.0 ++ d) (sym digits))

pub returns : goal.returns
returns c =
    let scored = c.trim_end-scored.ensures in
    let named = c.trim_end-named.ensures in
    let digits = c.as_bytes.ensures.value ∙ c.format.ensures.text in
    before_colon c.front_before-2.result c.args.text.now c.trim_end-scored.result.0.now c.trim_end-scored.result.1.now
    c.in-Some.front.now c.trim_end-named.result.0.now c.trim_end-named.result.1.now c.args.score (omega arith)
    scored.cut.0 scored.cut.1 scored.solid
    (c.in-Some.ensures ∙ ap (λ (d : List ℕ). c.in-Some.front.now ++ d) digits) named.cut.0 named.cut.1 named.solid
    c.front_before-2.ensures
