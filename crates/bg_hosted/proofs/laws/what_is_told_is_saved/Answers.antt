use Rattle.bg_hosted.proofs.Told.{stays_reached, tells_saved}
use Rattle.bg_hosted.proofs.laws.what_is_told_is_saved.Goals as goal

pub returns-clause-reached : goal.returns-clause-reached
returns-clause-reached c = stays_reached

pub returns-clause-saved : goal.returns-clause-saved
returns-clause-saved c = tells_saved
