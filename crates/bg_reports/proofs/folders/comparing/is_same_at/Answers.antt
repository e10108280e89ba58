use Rattle.std.proofs.Common.{◌≡◌, ◌∙◌, sym, ap, Some}
use Rattle.std.specs.Option.{option_copied}
use Rattle.bg_match.specs.Match.{at_number}
use Rattle.bg_match.proofs.Equal.{compares_entries}
use Rattle.bg_reports.proofs.folders.comparing.is_same_at.Goals as goal

pub returns : goal.returns
returns c =
    let entry : at_number c.args.log.now.entries c.args.number ≡ Some c.unwrap-entry.result.now =
    sym c.entry.ensures ∙ ap option_copied c.unwrap-entry.ensures in
    let other : at_number c.args.others.now.entries c.args.number ≡ Some c.unwrap-other.result.now =
    sym c.entry-2.ensures ∙ ap option_copied c.unwrap-other.ensures in
    let alike = compares_entries c.unwrap-entry.result.now c.unwrap-other.result.now in (
      λ yes. entry ∙ ap Some (alike.0 (sym c.eq.ensures ∙ yes)) ∙ sym other,
      λ same. c.eq.ensures ∙ alike.1 (cc (entry, other, same)),
    )
