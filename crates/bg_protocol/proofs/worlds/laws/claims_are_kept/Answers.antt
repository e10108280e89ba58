use Rattle.bg_protocol.proofs.worlds.laws.claims_are_kept.Goals as goal
use Rattle.bg_protocol.proofs.Protocol.Invariant.{of_seat}
use Rattle.bg_protocol.proofs.Protocol.Reached.{reached}

pub returns : goal.returns
returns c = λ w q h. (of_seat w q (reached w h)).claims
