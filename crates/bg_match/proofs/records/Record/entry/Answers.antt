use Rattle.std.proofs.Common.{◌∙◌, sym, ap, option_map}
use Rattle.bg_match.proofs.Kept.{at_number-map}
use Rattle.bg_match.proofs.records.Record.entry.Goals as goal

pub returns : goal.returns
returns c =
    let found = c.in_ok-made.ensures in
    let kept = rw c.deref.ensures.value at found in
    rw (← c.self.view_is)
    (ap (option_map (λ m. m.entry)) kept ∙ sym (at_number-map (λ m. m.entry) c.self.inside.made.items c.args.number))
