use Rattle.bg_referee.proofs.DueRefusals.{only_where_none}
use Rattle.bg_referee.proofs.referee.Referee.due.Goals as goal

pub returns : goal.returns
returns c =
    record { dues = c.open.ensures; only = only_where_none c.args.self.now c.open.new.self c.args.word c.open.result c.open.ensures }
