use Rattle.bg_processes.proofs.Silences.{counts_silence}
use Rattle.bg_processes.proofs.processes.laws.silence_is_counted.Goals as goal

pub returns : goal.returns
returns c = counts_silence
