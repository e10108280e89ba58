use Rattle.bg_text.proofs.Judged.ReadInputs.{faults_are_judged}
use Rattle.bg_text.proofs.judging.transcript_faults_are_judged.Goals as goal

pub returns : goal.returns
returns c = faults_are_judged
