use Rattle.bg_c.proofs.Fresh.{is_fresh}
use Rattle.bg_c.proofs.parties.openings.open_fresh.Goals as goal

-- empty slots restore nothing
pub returns : goal.returns
returns c = let a = c.args in is_fresh a.number a.id a.terms c.open.result c.open.ensures
