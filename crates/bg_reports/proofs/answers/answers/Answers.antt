use Rattle.std.proofs.Common.{◌∙◌, sym}
use Rattle.bg_match.specs.declared.entries.Entry.TheVariants.{Moved}
use Rattle.bg_match.proofs.Equal.{compares_entries}
use Rattle.bg_reports.proofs.answers.answers.Goals as goal

pub returns-in-Move-Moved : goal.returns-in-Move-Moved
returns-in-Move-Moved c =
    let both = compares_entries (Moved c.in-Move-Moved.turn) (Moved c.in-Move-Moved.played) in
    rw (c.in-Move-Moved.is-0, c.in-Move-Moved.is-1)
    (λ h. sym (both.0 (sym c.eq.ensures ∙ h)), λ same. c.eq.ensures ∙ both.1 (sym same))
