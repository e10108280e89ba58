-- What a take of an honest link puts in hand.
use Rattle.std.specs.Prelude.{◌≡◌, ℕ, ◌≤◌, List, [], ◌∷◌, ◌++◌, Option, Some, None, Result, Ok, Err}
use Rattle.std.proofs.Common.{refl, sym, ◌∙◌, ap, arith}
use Rattle.std.proofs.lemmas.List.{append-nil}
use Rattle.std.proofs.lemmas.List.Elements.{All-cons, All-nil}
use Rattle.arrayvec.specs.ArrayVec.{ArrayVec}
use Rattle.bg_wire.specs.declared.faults.WireFault.{WireFault}
use Rattle.bg_wire.specs.declared.packets.Datagram.{Datagram}
use Rattle.bg_wire.specs.declared.packets.Packet.{Packet}
use Rattle.bg_wire.specs.Packets.PacketText.{IsPacket}
use Rattle.bg_protocol.specs.declared.devices.DeviceFault.{DeviceFault}
use Rattle.bg_protocol.specs.declared.devices.DeviceFault.TheVariants as faults
use Rattle.bg_protocol.specs.declared.events.Outcome.{Outcome}
use Rattle.bg_protocol.specs.declared.events.Outcome.TheVariants as outcomes
use Rattle.bg_protocol.specs.Protocol.State.{ProtocolState}
use Rattle.bg_protocol.specs.Protocol.Datagrams.{Carries}
use Rattle.bg_protocol.specs.Protocol.Frames.{SendsAtMost}
use Rattle.bg_protocol.specs.Devices.DeviceCalls.{IsHand, datagram_of}

-- what a take may come to without a packet
pub data IsEmptyHand (o : Outcome) : Type 0 where
  fault : o ≡ outcomes.LinkFault → IsEmptyHand o
  memory : o ≡ outcomes.Memory → IsEmptyHand o
  nothing : o ≡ outcomes.NoDatagram → IsEmptyHand o
  no_packet : (why : WireFault) → o ≡ outcomes.NotAPacket why → IsEmptyHand o

pub empty_hand : (taken : Result (Option (ArrayVec ℕ)) DeviceFault) (o : Outcome) → IsHand taken (Err o)
    → IsEmptyHand o
empty_hand (Err faults.Failed) o h = fault h
empty_hand (Err faults.Memory) o h = memory h
empty_hand (Ok None) o h = nothing h
empty_hand (Ok (Some bytes)) (outcomes.NotAPacket why) h = no_packet why refl
empty_hand (Ok (Some bytes)) o h = absurd h

-- the packet's own datagram carries it
pub carries : (to : ℕ) (p : Packet) → IsPacket p → Carries (datagram_of to p) to p
carries to p fits = (refl, record { in_range = fits; spelled = refl })

-- the list is as it was
pub grows_none : (may : Datagram → Type 0) (most : ℕ) (w v : ProtocolState) → v ≡ w → SendsAtMost may most w v
grows_none may most w v e = record {
  out = [];
  few = omega arith;
  each = All-nil may;
  after = e ∙ ap (λ (l : List Datagram). record w { sent = l }) (sym (append-nil w.sent));
}

pub grows_one : (may : Datagram → Type 0) (most : ℕ) (w v : ProtocolState) (d : Datagram) → 1 ≤ most → may d
    → v ≡ record w { sent = w.sent ++ d ∷ [] } → SendsAtMost may most w v
grows_one may most w v d one h e = record {
  out = d ∷ [];
  few = one;
  each = All-cons may d [] h (All-nil may);
  after = e;
}
