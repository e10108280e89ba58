-- What a call of a device may do. A link carries datagrams; a keeper keeps the saved texts of a
-- party.
use Rattle.std.specs.Prelude.{◌≡◌, ◌⊎◌, ℕ, ◌+◌, ◌<◌, ◌≤◌, List, [], ◌∷◌, ◌++◌, Contains, Result, Ok, Err, IsErrOf}
use Rattle.bg_wire.specs.Saved.SlotLaws.{Slots, bytes_in, with_slot}
use Rattle.bg_wire.specs.Packets.PacketText.{IsText}
use Rattle.bg_wire.specs.declared.packets.Datagram.{Datagram}
use Rattle.bg_wire.specs.declared.packets.Packet.{Packet}
use Rattle.bg_wire.specs.declared.saves.slots.Slot.{Slot}
use Rattle.bg_protocol.specs.Protocol.Slots.{MayBeLeft}
use Rattle.bg_protocol.specs.declared.devices.DeviceFault.{DeviceFault}
use Rattle.bg_protocol.specs.declared.devices.DeviceFault.TheVariants.{Failed, Memory}

-- ---- failures

-- failures are never taken back, and a call answers `Failed` only where one was counted in it
pub record HasCause {T : Type 0} (before after : ℕ) (result : Result T DeviceFault) : Type 0 where
  pub later : before ≤ after
  pub failed : IsErrOf result Failed → before < after

-- a call that answers `Failed` is counted once as a failure, and no other is
abbrev pub CountsFailed : {T : Type 0} → ℕ → ℕ → Result T DeviceFault → Type 0
CountsFailed before after (Ok value) = after ≡ before
CountsFailed before after (Err Failed) = after ≡ before + 1
CountsFailed before after (Err Memory) = after ≡ before

-- ---- an honest link

-- a send that succeeds puts the datagram behind those that were sent; one that fails does so, or
-- changes nothing
abbrev pub Sends : List Datagram → Datagram → List Datagram → Result (Unit {0}) DeviceFault → Type 0
Sends old datagram new (Ok done) = new ≡ old ++ datagram ∷ []
Sends old datagram new (Err fault) = (new ≡ old) ⊎ (new ≡ old ++ datagram ∷ [])

-- the bytes are the text of no packet
abbrev pub IsNoText : List ℕ → Type 0
IsNoText bytes = (p : Packet) → IsText p bytes → ⊥

-- what may arrive at a party: bytes that were sent to it, or bytes that are no packet's text
abbrev pub MayArrive : List Datagram → ℕ → List ℕ → Type 0
MayArrive sent party bytes = Contains sent (record { to = party; bytes = bytes }) ⊎ IsNoText bytes

-- ---- an honest keeper

-- a write that fails leaves its slot as it was, or with a front of the bytes; the other slot stays
pub record LeavesTorn (old : Slots) (slot : Slot) (bytes : List ℕ) (new : Slots) : Type 0 where
  pub left : List ℕ
  pub torn : MayBeLeft (bytes_in old slot) bytes left
  pub after : new ≡ with_slot old slot left

-- a write that succeeds leaves its bytes in that slot, and the other slot stays
abbrev pub Writes : Slots → Slot → List ℕ → Slots → Result (Unit {0}) DeviceFault → Type 0
Writes old slot bytes new (Ok done) = new ≡ with_slot old slot bytes
Writes old slot bytes new (Err fault) = LeavesTorn old slot bytes new
