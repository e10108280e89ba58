use Rattle.bg_protocol.proofs.ReachedWorlds.Starting.{at_the_start}
use Rattle.bg_protocol.proofs.worlds.laws.new_worlds_are_at_the_start.Goals as goal

pub returns : goal.returns
returns c = at_the_start
