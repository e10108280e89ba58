use Rattle.bg_protocol.proofs.worlds.laws.saved_entries_alone_are_shown.Goals as goal
use Rattle.bg_protocol.proofs.Protocol.Reached.{reached, no_more}

pub returns : goal.returns
returns c = λ w h. no_more w (reached w h)
