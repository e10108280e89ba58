use Rattle.std.proofs.Common.{◌∙◌, sym, ap, option_map}
use Rattle.bg_match.proofs.Kept.{at_number-map, SeatAfter-at_number}
use Rattle.bg_match.proofs.records.Record.by.Goals as goal

pub returns-clause-seat : goal.returns-clause-seat
returns-clause-seat c first within =
    let found = c.in_ok-made.ensures in
    let kept = rw c.deref.ensures.value at found in
    rw (← c.self.view_is) (SeatAfter-at_number _ _ _ _ c.self.invariant c.args.number _
    (at_number-map (λ m. m.seat) c.self.inside.made.items c.args.number ∙ ap (option_map (λ m. m.seat)) (sym kept)))
