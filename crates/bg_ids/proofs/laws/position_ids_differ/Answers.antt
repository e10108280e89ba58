use Rattle.bg_ids.proofs.Sides.{differ}
use Rattle.bg_ids.proofs.laws.position_ids_differ.Goals as goal

pub returns : goal.returns
returns c = differ
