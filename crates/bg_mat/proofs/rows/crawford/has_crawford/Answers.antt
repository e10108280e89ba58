use Rattle.bg_mat.specs.Rows.Headings.{IsHeader}
use Rattle.bg_mat.proofs.OfReading.ToldApart.{long_begins}
use Rattle.bg_mat.proofs.rows.crawford.has_crawford.Goals as goal

pub returns-then-not-is_header : goal.returns-then-not-is_header
returns-then-not-is_header c =
    let solid : IsHeader c.in-Some.line.now → ⊥ = (λ filler. let t = c.is_header.ensures.1 filler in absurd (cc (t, c.if-not-is_header.true))) in
    let here = long_begins _ _ _ _ c.in-Some.ensures.lines solid c.tells_long_match.ensures in
    (λ is. c.loop-line.invariant.0 (here.0 is), λ begun. here.1 (c.loop-line.invariant.1 begun))
