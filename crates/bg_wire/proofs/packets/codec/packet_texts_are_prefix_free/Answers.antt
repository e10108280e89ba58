use Rattle.bg_wire.specs.Packets.PacketReading.{packet_at}
use Rattle.bg_wire.proofs.Laws.{prefix_free}
use Rattle.bg_wire.proofs.OfPackets.PacketLaws.{packet_law}
use Rattle.bg_wire.proofs.packets.codec.packet_texts_are_prefix_free.Goals as goal

pub returns : goal.returns
returns c = prefix_free packet_at packet_law
