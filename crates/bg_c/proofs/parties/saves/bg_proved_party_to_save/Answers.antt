use Rattle.std.proofs.Common.{◌≡◌}
use Rattle.bg_c.proofs.parties.saves.bg_proved_party_to_save.Goals as goal

pub returns-clause-saves : goal.returns-clause-saves
returns-clause-saves c = λ old is.
    let same : old ≡ c.in-Some.party.value = cc (c.in-Some.ensures.taken, is) in
    let begun = c.begin_save-status.ensures in (
      begun.0,
      c.begin_save-status.new.party,
      c.begin_save-status.result,
      rw (same, ← c.deref_mut.ensures.value) begun.1,
      c.put.ensures,
      begun.2,
      c.code-2.ensures,
      begun.3,
    )
