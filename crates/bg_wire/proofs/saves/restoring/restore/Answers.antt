use Rattle.std.proofs.Common.{◌≡◌, true}
use Rattle.bg_wire.specs.Saved.SavedText.{parts_of}
use Rattle.bg_wire.proofs.saves.restoring.restore.Goals as goal

pub returns-in-Some-2-clause-restores : goal.returns-in-Some-2-clause-restores
returns-in-Some-2-clause-restores c = (
  parts_of c.in-Some.saved,
  rw c.in-Some.is at c.in_ok-saved.ensures.reads,
  λ h. let t : c.is_saved_by.result ≡ true = c.is_saved_by.ensures.1 h in absurd (cc (t, c.if-is_saved_by.false)),
)
