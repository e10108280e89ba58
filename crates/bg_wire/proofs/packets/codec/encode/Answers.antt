use Rattle.std.proofs.Common.{◌∙◌, ap, arith, length}
use Rattle.bg_wire.proofs.Lengths.{length-packet_text}
use Rattle.bg_wire.proofs.packets.codec.encode.Goals as goal

pub returns-clause-longest : goal.returns-clause-longest
returns-clause-longest c =
    let told = ap length (c.as_slice.ensures.value ∙ c.put_packet.ensures) in
    let put = rw c.unwrap.ensures at c.try_extend_from_slice.ensures.len in
    omega (arith, told, put, ap length c.new-bytes.ensures, length-packet_text c.args.packet.now c.requires)
