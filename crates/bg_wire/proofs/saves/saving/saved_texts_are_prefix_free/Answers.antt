use Rattle.bg_wire.proofs.OfSaves.SavedLaws.{saved_prefix_free}
use Rattle.bg_wire.proofs.saves.saving.saved_texts_are_prefix_free.Goals as goal

pub returns : goal.returns
returns c = saved_prefix_free
