use Rattle.std.proofs.Common.{◌+◌, ◌≤◌, length}
use Rattle.std.specs.List.{AllByRecursion}
use Rattle.bg_wire.specs.Packets.PacketText.{IsPacket}
use Rattle.bg_protocol.specs.Devices.LinkCalls.{SendCalls}
use Rattle.bg_protocol.specs.Worlds.Views.{LinkView, link_view}
use Rattle.bg_protocol.specs.declared.events.Outcome.{Outcome}
use Rattle.bg_protocol.proofs.nodes.ticks.send_all.Given as goal

abbrev pub invariant-loop-rest : goal.invariant-loop-rest
invariant-loop-rest g l = record {
  goes_on : (result : Outcome) (new : LinkView)
      → SendCalls g.L.Link.is_honest l.parties l.sent (link_view g.L.Link l.link) l.rest result new
      → SendCalls g.L.Link.is_honest l.parties 0 (link_view g.L.Link l.fn.link) l.packets result new;
  fit : AllByRecursion (λ packet. IsPacket packet.1) l.rest;
  few : l.sent + length l.rest ≤ 2;
}

abbrev pub decreases-loop-rest : goal.decreases-loop-rest
decreases-loop-rest g l = length l.rest
