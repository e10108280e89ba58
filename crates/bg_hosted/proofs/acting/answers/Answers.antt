use Rattle.std.proofs.Common.{◌≡◌, ◌∙◌, sym}
use Rattle.bg_match.proofs.Equal.{compares_entries}
use Rattle.bg_match.specs.contracts.entries.EntryPartialEq.TheImpl.{ghosts as entries}
use Rattle.bg_match.specs.declared.entries.Entry.TheVariants.{Moved}
use Rattle.bg_hosted.proofs.acting.answers.Goals as goal

pub returns-in-Move : goal.returns-in-Move
returns-in-Move c =
    let same = compares_entries c.args.entry.now (Moved c.copy.result) in
    let is : c.eq-in-Move.result ≡ entries.eq c.args.entry.now (Moved c.copy.result) = c.eq-in-Move.ensures in
    rw (c.in-Move.is, ← c.copy.ensures.value) (λ h. same.0 (sym is ∙ h), λ e. is ∙ same.1 e)
