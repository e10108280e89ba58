use Rattle.std.specs.Prelude.{Some, None}
use Rattle.std.proofs.Common.{refl, rules}
use Rattle.bg_wire.specs.Saved.SavedText.{parts_of}
use Rattle.bg_fences.proofs.memory_slots.told_number.Goals as goal

pub returns-in-Ok : goal.returns-in-Ok
returns-in-Ok c = (Some (parts_of c.in-Ok.saved), c.in-Ok.ensures.found, refl)

pub returns-in-Err : goal.returns-in-Err
returns-in-Err c = (None, search rules, refl)
