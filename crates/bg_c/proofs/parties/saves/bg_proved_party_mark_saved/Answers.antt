use Rattle.std.proofs.Common.{◌≡◌}
use Rattle.bg_c.proofs.parties.saves.bg_proved_party_mark_saved.Goals as goal

pub returns-in-Ok-clause-marks : goal.returns-in-Ok-clause-marks
returns-in-Ok-clause-marks c = λ old is under_way.
    let same : old ≡ c.in-Some.party.value = cc (c.in-Some.ensures.taken, is) in
    let saved = c.in-Ok.ensures.saved in (
      c.mark_saved-marked.new.self,
      c.put.ensures,
      rw (same, ← c.deref_mut.ensures.value) saved.0,
      saved.1,
      c.code-in-Ok.ensures,
    )
