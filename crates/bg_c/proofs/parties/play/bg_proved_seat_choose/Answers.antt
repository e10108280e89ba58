use Rattle.std.proofs.Common.{◌≡◌}
use Rattle.bg_c.proofs.parties.play.bg_proved_seat_choose.Goals as goal

pub returns-clause-chooses : goal.returns-clause-chooses
returns-clause-chooses c = λ old is.
    let same : old ≡ c.in-Some.party.value = cc (c.in-Some.ensures.taken, is) in (
      c.choose-made.result,
      c.choose-made.new.party,
      rw (same, ← c.deref_mut.ensures.value) c.choose-made.ensures,
      c.put.ensures,
      c.set.ensures,
    )
