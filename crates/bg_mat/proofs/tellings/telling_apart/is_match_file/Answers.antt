use Rattle.bg_mat.specs.Rows.Headings.{IsHeader}
use Rattle.bg_mat.proofs.OfReading.ToldApart.{length_begins}
use Rattle.bg_mat.proofs.tellings.telling_apart.is_match_file.Goals as goal

pub returns-then-not-is_header : goal.returns-then-not-is_header
returns-then-not-is_header c =
    let solid : IsHeader c.in-Some.line.now → ⊥ = (λ filler. let t = c.is_header.ensures.1 filler in absurd (cc (t, c.if-not-is_header.true))) in
    let here = length_begins _ _ _ _ c.in-Some.ensures.lines solid c.tells_length.ensures in
    (λ is. c.loop-line.invariant.0 (here.0 is), λ begun. here.1 (c.loop-line.invariant.1 begun))
