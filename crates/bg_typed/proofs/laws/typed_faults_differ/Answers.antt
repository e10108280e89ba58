use Rattle.bg_typed.proofs.OneRefusal.{faults_differ}
use Rattle.bg_typed.proofs.laws.typed_faults_differ.Goals as goal

pub returns : goal.returns
returns c = faults_differ
