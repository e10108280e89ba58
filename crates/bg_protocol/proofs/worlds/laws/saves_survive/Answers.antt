use Rattle.bg_protocol.proofs.worlds.laws.saves_survive.Goals as goal
use Rattle.bg_protocol.proofs.Protocol.Reached.{reached, saves_survive}

pub returns : goal.returns
returns c = λ w h. saves_survive w (reached w h)
