use Rattle.std.specs.Prelude.{◌≡◌, ◌++◌, ℕ, codes, OnOk}
use Rattle.std.specs.Fmt.{decimal}
use Rattle.std.proofs.Common.{subst}
use Rattle.bg_mat.proofs.OfReading.Parts.{two_parts}
use Rattle.bg_mat.proofs.rows.cell_texts.put_double.Goals as goal

pub returns : goal.returns
returns c =
    let number = subst (λ (n : ℕ). OnOk c.put_number.result (c.put_number.new.out.items ≡ c.put_text.new.out.items ++ decimal n))
    c.into.ensures c.put_number.ensures in
    two_parts c.put_number.result (codes " Doubles => ") (decimal c.args.shows) c.args.out.now.items
    c.put_text.new.out.items c.put_number.new.out.items c.in_ok-put_text.ensures number
