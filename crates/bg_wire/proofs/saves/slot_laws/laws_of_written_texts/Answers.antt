use Rattle.bg_wire.proofs.OfSaves.SavedLaws.{has_written, one_written, written_is_saved}
use Rattle.bg_wire.proofs.saves.slot_laws.laws_of_written_texts.Goals as goal

pub returns-clause-some : goal.returns-clause-some
returns-clause-some c = has_written

pub returns-clause-one : goal.returns-clause-one
returns-clause-one c = one_written

pub returns-clause-saved : goal.returns-clause-saved
returns-clause-saved c = written_is_saved
