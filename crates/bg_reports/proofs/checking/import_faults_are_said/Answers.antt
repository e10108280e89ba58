use Rattle.bg_reports.proofs.MatchFileVerdicts.{import_said}
use Rattle.bg_reports.proofs.checking.import_faults_are_said.Goals as goal

pub returns : goal.returns
returns c = import_said
