use Rattle.bg_protocol.proofs.worlds.laws.nothing_is_refused.Goals as goal
use Rattle.bg_protocol.proofs.Protocol.Reached.{reached, no_packet_refused, no_slot_refused}

pub returns-clause-packets : goal.returns-clause-packets
returns-clause-packets c = λ w h. no_packet_refused w (reached w h)

pub returns-clause-slots : goal.returns-clause-slots
returns-clause-slots c = λ w h. no_slot_refused w (reached w h)
