use Rattle.std.proofs.Common.{◌≡◌}
use Rattle.bg_c.proofs.parties.play.bg_proved_referee_due.Goals as goal

pub returns-clause-due : goal.returns-clause-due
returns-clause-due c = λ old is.
    let same : old ≡ c.in-Some.party.value = cc (c.in-Some.ensures.taken, is) in
    let made = c.due-made.ensures in (
      made.0,
      c.due-made.new.party,
      rw (same, ← c.deref_mut.ensures.value) made.1,
      c.put.ensures,
      rw (← made.2) c.set.ensures,
    )
