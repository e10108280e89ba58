use Rattle.std.proofs.Common.{length, sym, ap, ◌∙◌, arith}
use Rattle.std.proofs.lemmas.Bool.{false≢true}
use Rattle.bg_seals.specs.Datagrams.{tag}
use Rattle.bg_seals.proofs.Sealing.{none_of_short, none_of_long, none_of_other_tag}
use Rattle.bg_seals.proofs.keys.Key.open.Goals as goal
use Rattle.bg_seals.proofs.keys.Key.open.Goals.{then-packet-gt-MOST_PACKET_BYTES-via-then-packet-gt-MOST_PACKET_BYTES}
use Rattle.bg_seals.proofs.keys.Key.open.Goals.{then-packet-gt-MOST_PACKET_BYTES-via-else-packet-gt-MOST_PACKET_BYTES+then-not-is}

pub returns-in_err-packet : goal.returns-in_err-packet
returns-in_err-packet c =
    let short = c.in_err-packet.ensures.cases in
    rw c.from_residual.ensures (none_of_short c.args.self.now c.args.direction c.args.party c.args.datagram.now short)

pub returns-then-packet-gt-MOST_PACKET_BYTES : goal.returns-then-packet-gt-MOST_PACKET_BYTES
returns-then-packet-gt-MOST_PACKET_BYTES c =
    let split = c.in_ok-packet.ensures.cases in
    let tag_of = tag c.args.self.now c.args.direction c.args.party in
    elim c.then-packet-gt-MOST_PACKET_BYTES.branch [
      | then-packet-gt-MOST_PACKET_BYTES-via-then-packet-gt-MOST_PACKET_BYTES w ↦
          none_of_long c.args.self.now c.args.direction c.args.party c.args.datagram.now
          (omega (arith, w.if-packet-gt-MOST_PACKET_BYTES.true, ap length split.0))
      | then-packet-gt-MOST_PACKET_BYTES-via-else-packet-gt-MOST_PACKET_BYTES+then-not-is w ↦
          none_of_other_tag c.args.self.now c.args.direction c.args.party c.args.datagram.now
          (λ same. false≢true (w.if-not-is.ensures.1 (w.tag.ensures ∙ ap tag_of split.0 ∙ same ∙ sym split.1)))
    ]
