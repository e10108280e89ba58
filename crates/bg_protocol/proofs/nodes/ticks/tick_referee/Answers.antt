use Rattle.std.proofs.lemmas.List.Elements.{recursion_from_All}
use Rattle.bg_wire.specs.Packets.PacketText.{IsPacket}
use Rattle.bg_protocol.proofs.nodes.ticks.tick_referee.Goals as goal

pub send_all-requires-clause-fit : goal.send_all-requires-clause-fit
send_all-requires-clause-fit g c =
    rw c.as_slice.ensures.value
    (recursion_from_All (λ push. IsPacket push.1) c.tick-packets.result.items c.tick-packets.ensures.fits)
