use Rattle.bg_picture.proofs.Drawn.{picture_told}
use Rattle.bg_picture.proofs.laws.drawings_tell_positions.Goals as goal

pub returns : goal.returns
returns c = picture_told
