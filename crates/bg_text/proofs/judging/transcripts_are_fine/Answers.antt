use Rattle.bg_text.proofs.Judged.FineTranscripts.{transcripts_are_fine}
use Rattle.bg_text.proofs.judging.transcripts_are_fine.Goals as goal

pub returns : goal.returns
returns c = transcripts_are_fine
