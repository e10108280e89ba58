use Rattle.std.proofs.Common.{length, ap, sym, ◌∙◌, length-set}
use Rattle.bg_referee.proofs.KnownNumbers.{known_set, tells}
use Rattle.bg_referee.proofs.sessions.Sessions.tell.Goals as goal

pub invariant_of-self : goal.invariant_of-self
invariant_of-self c =
    let noted = known_set c.self.inside.known c.self.inside.told c.from-place.result c.args.number in
    record {
      places = ap length noted ∙ length-set _ _ _ ∙ c.self.invariant.places;
      first = c.self.invariant.first;
      last = c.self.invariant.last;
    }

pub returns : goal.returns
returns c =
    rw (sym c.self.view_is) (rw c.from-place.ensures (tells c.self.inside.known c.self.inside.told c.self.inside.cursor c.args.party c.args.number))
