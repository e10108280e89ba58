use Rattle.bg_mat.specs.Rows.Headings.{IsLengthLine}
use Rattle.bg_mat.proofs.OfReading.ToldApart.{found_some}
use Rattle.bg_mat.proofs.rows.headings.tells_length.Goals as goal

pub returns : goal.returns
returns c = found_some (IsLengthLine c.args.line.now) _ _ c.is_some.ensures c.read_length.ensures
