use Rattle.std.proofs.Common.{◌≡◌, length, take}
use Rattle.std.specs.Prelude.{All}
use Rattle.bg_wire.specs.Packets.PacketText.{IsPacket}
use Rattle.bg_referee.specs.Takes.{TellsSaved}
use Rattle.bg_referee.specs.Ticks.{ArePushes}
use Rattle.bg_referee.proofs.referee.Referee.pushes.Given as goal

abbrev pub invariant-loop-party : goal.invariant-loop-party
invariant-loop-party l = record {
  beside : ArePushes l.self (take l.party-index l.parties) l.pushes.items;
  tells : All (λ push. TellsSaved l.self push.1) l.pushes.items;
  fits : All (λ push. IsPacket push.1) l.pushes.items;
  many : length l.pushes.items ≡ l.party-index;
}
