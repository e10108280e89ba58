use Rattle.std.proofs.Common.{◌≡◌}
use Rattle.bg_c.specs.PartyCalls.{HeldTicks}
use Rattle.bg_c.proofs.parties.play.bg_proved_party_tick.Goals as goal

pub returns-clause-ticks : goal.returns-clause-ticks
returns-clause-ticks c = λ old is.
    let same : old ≡ c.in-Some.party.value = cc (c.in-Some.ensures.taken, is) in
    let ticks : HeldTicks c.deref_mut.result.now c.tick-sent.result.items c.tick-sent.new.self =
    record { core = c.tick-sent.ensures.ticks; save = c.tick-sent.ensures.save } in (
      c.tick-sent.result.items,
      c.tick-sent.new.self,
      rw (same, ← c.deref_mut.ensures.value) ticks,
      c.put.ensures,
      c.code-2.ensures,
      rw (← c.as_slice-sent.ensures.value) c.at.ensures,
      rw (← c.as_slice-sent.ensures.value) c.at-2.ensures,
    )
