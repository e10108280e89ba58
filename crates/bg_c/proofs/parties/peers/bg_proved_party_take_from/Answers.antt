use Rattle.std.proofs.Common.{◌≡◌}
use Rattle.bg_c.proofs.parties.peers.bg_proved_party_take_from.Goals as goal

pub returns-clause-takes : goal.returns-clause-takes
returns-clause-takes c = λ old is.
    let same : old ≡ c.in-Some.party.value = cc (c.in-Some.ensures.taken, is) in (
      c.take_from-made.result,
      c.take_from-made.new.party,
      rw (same, ← c.deref_mut.ensures.value) c.take_from-made.ensures,
      c.put.ensures,
      c.set_both.ensures,
    )
