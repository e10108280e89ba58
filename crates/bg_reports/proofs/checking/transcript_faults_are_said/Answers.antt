use Rattle.bg_reports.proofs.TranscriptVerdicts.{transcript_said}
use Rattle.bg_reports.proofs.checking.transcript_faults_are_said.Goals as goal

pub returns : goal.returns
returns c = transcript_said
