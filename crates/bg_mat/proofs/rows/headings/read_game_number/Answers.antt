use Rattle.bg_mat.proofs.OfReading.HeadingLemmas.{colon_number, plain_game_number}
use Rattle.bg_mat.proofs.rows.headings.read_game_number.Goals as goal

pub returns-in-Some : goal.returns-in-Some
returns-in-Some c = colon_number c.args.word.now c.in-Some.digits.now c.read_number.result c.in-Some.ensures c.read_number.ensures

pub returns-in-None : goal.returns-in-None
returns-in-None c = plain_game_number c.args.word.now c.read_number-in-None.result c.in-None.ensures c.read_number-in-None.ensures
