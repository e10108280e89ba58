use Rattle.bg_mat.proofs.OfReading.OneReading.{lines_once}
use Rattle.bg_mat.proofs.tellings.reading_once.lines_read_once.Goals as goal

pub returns : goal.returns
returns c = lines_once
