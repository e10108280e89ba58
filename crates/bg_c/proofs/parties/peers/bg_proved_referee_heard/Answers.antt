use Rattle.std.proofs.Common.{◌≡◌}
use Rattle.bg_c.proofs.parties.peers.bg_proved_referee_heard.Goals as goal

pub returns-clause-hears : goal.returns-clause-hears
returns-clause-hears c = λ old is.
    let same : old ≡ c.in-Some.party.value = cc (c.in-Some.ensures.taken, is) in (
      c.hear-made.result,
      c.hear-made.new.party,
      rw (same, ← c.deref_mut.ensures.value) c.hear-made.ensures,
      c.put.ensures,
      c.set_both.ensures,
    )
