use Rattle.std.proofs.Common.{◌≡◌, ◌≢◌, ◌∷◌, ◌++◌, [], List, ℕ, subst, sym}
use Rattle.std.specs.Prelude.{MatchOption}
use Rattle.std.proofs.lemmas.Bool.Decides.{Decides-eqb}
use Rattle.std.proofs.lemmas.Slice.Eq.{strip_prefix_is}
use Rattle.bg_mat.specs.Rows.Numbers.{IsNumber}
use Rattle.bg_mat.proofs.OfReading.Fronts.{number_cut}
use Rattle.bg_mat.proofs.rows.behind_row_number.Goals as goal

pub returns-in_default : goal.returns-in_default
returns-in_default c =
    let parts = c.split_blanks.ensures in
    let cut = c.split_digits.ensures in
    let none : MatchOption c.strip_prefix.result ((rest : List ℕ) → c.split_digits.result.1.now ≢ (41 ∷ []) ++ rest)
    (λ x. c.split_digits.result.1.now ≡ (41 ∷ []) ++ x.now) =
    strip_prefix_is Decides-eqb c.split_digits.result.1.now (41 ∷ []) c.strip_prefix.result c.strip_prefix.ensures.cases in
    λ r f. (rw c.in_default.is at none) r (number_cut c.args.line.now c.split_blanks.result.0.now c.split_blanks.result.1.now
    c.split_digits.result.0.now c.split_digits.result.1.now r parts.0 parts.1 parts.2 cut.1 cut.0 cut.2 f).1

pub returns-in-None : goal.returns-in-None
returns-in-None c =
    let parts = c.split_blanks.ensures in
    let cut = c.split_digits.ensures in
    λ r f. c.in-None.ensures f.n (subst (λ (w : List ℕ). IsNumber w f.n) (sym (number_cut c.args.line.now c.split_blanks.result.0.now
    c.split_blanks.result.1.now c.split_digits.result.0.now c.split_digits.result.1.now r parts.0 parts.1 parts.2 cut.1 cut.0 cut.2 f).0)
    f.number)
