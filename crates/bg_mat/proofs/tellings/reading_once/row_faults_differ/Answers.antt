use Rattle.bg_mat.proofs.OfReading.FaultsApart.{faults_apart}
use Rattle.bg_mat.proofs.tellings.reading_once.row_faults_differ.Goals as goal

pub returns : goal.returns
returns c = faults_apart
