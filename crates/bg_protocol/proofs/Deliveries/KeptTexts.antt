-- A keeper that follows a plan is honest.
use Rattle.std.proofs.Common.{◌≡◌, ℕ, List, Option, Some, None, Result, Ok, Err, take, drop, refl, sym, ◌∙◌, inl, inr, take-append-drop}
use Rattle.bg_wire.specs.Saved.SlotLaws.{Slots, bytes_in, with_slot}
use Rattle.bg_wire.specs.declared.saves.slots.Slot.{Slot}
use Rattle.bg_wire.specs.declared.saves.slots.Slot.TheVariants.{Zero, One}
use Rattle.bg_protocol.specs.Devices.Honesty.{LeavesTorn, Writes}
use Rattle.bg_protocol.specs.Devices.Plan.{WritesBy, torn_at}
use Rattle.bg_protocol.specs.declared.devices.DeviceFault.{DeviceFault}
use Rattle.bg_protocol.specs.declared.devices.DeviceFault.TheVariants.{Failed, Memory}
use Rattle.bg_protocol.specs.declared.devices.plans.Tear.{Tear}

-- to put into a slot what it has changes nothing
with_slot-same : (slots : Slots) (slot : Slot) → with_slot slots slot (bytes_in slots slot) ≡ slots
with_slot-same slots Zero = refl
with_slot-same slots One = refl

left_alone : (old : Slots) (slot : Slot) (bytes : List ℕ) (new : Slots) → new ≡ old → LeavesTorn old slot bytes new
left_alone old slot bytes new same = record { left = bytes_in old slot; torn = inl refl; after = same ∙ sym (with_slot-same old slot) }

torn_front : (cut : Option ℕ) (old : Slots) (slot : Slot) (bytes : List ℕ) (new : Slots) → new ≡ torn_at cut old slot bytes → LeavesTorn old slot bytes new
torn_front None old slot bytes new e = left_alone old slot bytes new e
torn_front (Some cut) old slot bytes new e = record { left = take cut bytes; torn = inr (drop cut bytes, take-append-drop cut bytes); after = e }

pub writes_honestly : (tear : Option Tear) (old : Slots) (slot : Slot) (bytes : List ℕ) (new : Slots) (result : Result (Unit {0}) DeviceFault)
    → WritesBy tear old slot bytes new result → Writes old slot bytes new result
writes_honestly None old slot bytes new (Ok done) by = by
writes_honestly None old slot bytes new (Err Failed) by = absurd by
writes_honestly None old slot bytes new (Err Memory) by = left_alone old slot bytes new by.1
writes_honestly (Some tear) old slot bytes new (Ok done) by = absurd by
writes_honestly (Some tear) old slot bytes new (Err Failed) by = torn_front tear.cut old slot bytes new by
writes_honestly (Some tear) old slot bytes new (Err Memory) by = left_alone old slot bytes new by.1
