-- One call of a device, and what is made of its answer.
use Rattle.std.specs.Prelude.{◌≡◌, ℕ, ◌+◌, Bool, true, false, List, Option, Some, None, Result, Ok, Err, IfOk, IfSome}
use Rattle.std.specs.Global.{Vec}
use Rattle.arrayvec.specs.ArrayVec.{ArrayVec}
use Rattle.bg_wire.specs.Faults.{IsWireFault}
use Rattle.bg_wire.specs.Packets.PacketText.{IsPacket, IsText, packet_text}
use Rattle.bg_wire.specs.Saved.SlotLaws.{bytes_in}
use Rattle.bg_wire.specs.declared.packets.Datagram.{Datagram}
use Rattle.bg_wire.specs.declared.packets.Packet.{Packet}
use Rattle.bg_wire.specs.declared.saves.slots.Slot.{Slot}
use Rattle.bg_protocol.specs.Protocol.Datagrams.{WasSent}
use Rattle.bg_protocol.specs.Devices.Honesty.{HasCause, CountsFailed, Sends, Writes}
use Rattle.bg_protocol.specs.Devices.Handed.{handed}
use Rattle.bg_protocol.specs.Devices.Plan.{failure_at, read_failure_at, tear_at, ReadsBy, SendsBy, WritesBy}
use Rattle.bg_protocol.specs.Worlds.Views.{KeeperView, LinkView}
use Rattle.bg_protocol.specs.declared.devices.DeviceFault.{DeviceFault}
use Rattle.bg_protocol.specs.declared.devices.DeviceFault.TheVariants as faults
use Rattle.bg_protocol.specs.declared.events.Outcome.{Outcome}
use Rattle.bg_protocol.specs.declared.events.Outcome.TheVariants as outcomes
use Rattle.bg_protocol.specs.declared.events.RestoreCause.TheVariants as causes

-- ---- a link

-- what a fault of the link comes to
abbrev pub link_outcome : DeviceFault → Outcome
link_outcome faults.Failed = outcomes.LinkFault
link_outcome faults.Memory = outcomes.Memory

-- the packet in hand after a take is the one whose text the link gave; or the outcome says why
-- there is none
abbrev pub IsHand : Result (Option (ArrayVec ℕ)) DeviceFault → Result Packet Outcome → Type 0
IsHand (Ok (Some bytes)) (Ok p) = IsText p bytes.items
IsHand (Ok (Some bytes)) (Err (outcomes.NotAPacket fault)) = IsWireFault fault bytes.items
IsHand (Ok None) (Err o) = o ≡ outcomes.NoDatagram
IsHand (Err fault) (Err o) = o ≡ link_outcome fault
IsHand _ _ = ⊥

-- a packet is in hand where there is one, and else the outcome that says why there is none
abbrev pub hand_of : Bool → Packet → Outcome → Result Packet Outcome
hand_of true p why = Ok p
hand_of false p why = Err why

-- One take for a party: what is in hand is what the link gave. Where the link is honest, that was
-- sent to the party; where it has a plan, it is what the pick names.
pub record Receives
    (honest : Type 0) (old : LinkView) (party pick : ℕ) (hand : Result Packet Outcome) (new : LinkView) : Type 0 where
  pub takes : new.takes ≡ old.takes + 1
  pub sends : new.sends ≡ old.sends
  pub plan : new.plan ≡ old.plan
  pub is_hand : IsHand new.taken hand
  pub cause : HasCause old.faults new.faults new.taken
  pub same : honest → new.sent ≡ old.sent
  pub was_sent : honest → IfOk hand (WasSent old.sent party)
  pub planned : IfSome old.plan (λ _. new.taken ≡ Ok (handed old.sent party pick))
  pub counted : IfSome old.plan (λ _. CountsFailed old.faults new.faults new.taken)

-- the packet on its way to the party
abbrev pub datagram_of : ℕ → Packet → Datagram
datagram_of to p = record { to = to; bytes = packet_text p }

-- One send of a packet to a party, which the link answers.
pub record Posts
    (honest : Type 0) (old : LinkView) (to : ℕ) (p : Packet) (answer : Result (Unit {0}) DeviceFault)
    (new : LinkView) : Type 0 where
  pub sends : new.sends ≡ old.sends + 1
  pub takes : new.takes ≡ old.takes
  pub taken : new.taken ≡ old.taken
  pub plan : new.plan ≡ old.plan
  pub cause : HasCause old.faults new.faults answer
  pub sent : honest → Sends old.sent (datagram_of to p) new.sent answer
  pub planned : IfSome old.plan
      (λ failing. SendsBy (failure_at failing new.sends) old.sent (datagram_of to p) new.sent answer)
  pub counted : IfSome old.plan (λ _. CountsFailed old.faults new.faults answer)
  pub fits : IsPacket p

-- ---- a keeper

-- One write of a text to a slot, which the keeper answers.
pub record WritesOnce
    (honest : Type 0) (old : KeeperView) (slot : Slot) (text : List ℕ) (answer : Result (Unit {0}) DeviceFault)
    (new : KeeperView) : Type 0 where
  pub writes : new.writes ≡ old.writes + 1
  pub reads : new.reads ≡ old.reads
  pub written : new.written ≡ answer
  pub plan : new.plan ≡ old.plan
  pub cause : HasCause old.faults new.faults answer
  pub slots : honest → Writes old.slots slot text new.slots answer
  pub planned : IfSome old.plan (λ p. WritesBy (tear_at p new.writes) old.slots slot text new.slots answer)
  pub counted : IfSome old.plan (λ _. CountsFailed old.faults new.faults answer)

-- what a fault of a read comes to
abbrev pub read_outcome : DeviceFault → Outcome
read_outcome faults.Failed = outcomes.RestoreFault causes.Device
read_outcome faults.Memory = outcomes.Memory

-- One read of a slot, which the keeper answers.
pub record ReadsOnce
    (honest : Type 0) (old : KeeperView) (slot : Slot) (answer : Result (Vec ℕ) DeviceFault)
    (new : KeeperView) : Type 0 where
  pub reads : new.reads ≡ old.reads + 1
  pub writes : new.writes ≡ old.writes
  pub written : new.written ≡ old.written
  pub plan : new.plan ≡ old.plan
  pub cause : HasCause old.faults new.faults answer
  pub same : honest → new.slots ≡ old.slots
  pub bytes : honest → IfOk answer (λ found. found.items ≡ bytes_in old.slots slot)
  pub planned : IfSome old.plan (λ p. ReadsBy (read_failure_at p new.reads) old.slots slot answer)
  pub counted : IfSome old.plan (λ _. CountsFailed old.faults new.faults answer)
