use Rattle.bg_mat.proofs.OfReading.OneReading.{files_once}
use Rattle.bg_mat.proofs.tellings.reading_once.files_read_once.Goals as goal

pub returns : goal.returns
returns c = files_once
