use Rattle.std.proofs.Common.{◌≡◌, ◌++◌, List, ℕ, [], refl, rules}
use Rattle.std.specs.Prelude.{codes}
use Rattle.bg_reports.specs.RowFields.{text_field, unknown_fields}
use Rattle.bg_reports.proofs.rows.too_long_row.Goals as goal

four : (a b c d : List ℕ) → (((([] ++ a) ++ b) ++ c) ++ d) ≡ a ++ b ++ c ++ d
four a b c d = search rules

pub returns : goal.returns
returns c =
    let verdict = text_field c.args.form (codes "verdict") (codes "refused") in
    let line = unknown_fields c.args.form (codes "\t") in
    let reason = text_field c.args.form (codes "reason") (codes "input too long") in
    let others = unknown_fields c.args.form (codes "\t\t\t\t\t\t\t\t\t\t\t\t\t") in
    let all = four verdict line reason others in (
      rw (c.in_ok-put_unknown-2.ensures, c.in_ok-put_words-2.ensures, c.in_ok-put_unknown.ensures, c.in_ok-put_words.ensures, c.new-row.ensures.items) all,
      refl,
    )
