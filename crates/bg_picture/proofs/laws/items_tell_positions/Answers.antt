use Rattle.bg_picture.proofs.Told.{told}
use Rattle.bg_picture.proofs.laws.items_tell_positions.Goals as goal

pub returns : goal.returns
returns c = told
