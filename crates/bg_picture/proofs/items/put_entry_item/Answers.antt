use Rattle.std.proofs.Common.{◌≡◌, Option, sym, subst, rules}
use Rattle.bg_board.specs.declared.players.Player.{Player}
use Rattle.bg_match.specs.Actor.{actor_of, seat_of}
use Rattle.bg_text.specs.Entries.EntryText.{IsSeatOf}
use Rattle.bg_text.proofs.Judged.ReadLines.{seat_acts}
use Rattle.bg_picture.proofs.items.put_entry_item.Goals as goal

pub entry_text-requires : goal.entry_text-requires
entry_text-requires c =
    let same : c.seat-seat.result ≡ seat_of (actor_of c.args.standing.now) = first_of (cc, search rules) in
    subst (λ (x : Option Player). IsSeatOf x c.args.entry.now) (sym same)
    (seat_acts c.args.standing.now c.args.entry.now c.requires.0 c.requires.1)
