use Rattle.bg_table.proofs.Followed.{rolls}
use Rattle.bg_table.proofs.offers.may_roll.Goals as goal

pub returns : goal.returns
returns c = rolls c.args.standing.now c.args.player _ c.may_make.result c.may_make.ensures
