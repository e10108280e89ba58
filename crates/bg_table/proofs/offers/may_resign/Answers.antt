use Rattle.bg_table.proofs.Followed.{resigns}
use Rattle.bg_table.proofs.offers.may_resign.Goals as goal

pub returns : goal.returns
returns c = resigns c.args.standing.now c.args.player _ c.may_make.result c.may_make.ensures
