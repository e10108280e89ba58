use Rattle.bg_ids.proofs.Fields.{differ}
use Rattle.bg_ids.proofs.laws.match_ids_differ.Goals as goal

pub returns : goal.returns
returns c = differ
