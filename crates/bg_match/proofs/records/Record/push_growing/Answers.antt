use Rattle.std.proofs.Common.{◌≡◌, map, length, ◌∙◌, sym}
use Rattle.std.proofs.lemmas.List.{length-map, map-append}
use Rattle.bg_match.proofs.Kept.{IsKept-push}
use Rattle.bg_match.proofs.records.Record.push_growing.Goals as goal

pub invariant_of-self-2 : goal.invariant_of-self-2
invariant_of-self-2 c =
    let after = rw (← c.self.view_is) at c.in_ok-after.ensures.after in
    let items = c.self.inside.made.items in
    let same : length (map (λ m. m.seat) items) ≡ length (map (λ m. m.entry) items) = length-map items (λ m. m.seat) ∙ sym (length-map items (λ m. m.entry)) in
    rw (c.push_reserved.ensures.items, c.make_room.ensures.items, map-append, map-append, c.seat-seat.ensures, c.actor.ensures)
    (IsKept-push _ _ _ _ c.args.entry c.in_ok-after.after c.self.invariant same after.0 after.1)
