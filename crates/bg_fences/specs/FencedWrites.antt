-- Writes behind a fence: what a keeper that has one promises of them.
use Rattle.std.specs.Prelude.{◌≡◌, ◌⊎◌, ℕ, List, Option, Result, Ok, Err}
use Rattle.bg_wire.specs.Saved.Restoring.{SlotsRestore}
use Rattle.bg_wire.specs.Saved.SavedText.{SavedParts, IsSavedText}
use Rattle.bg_wire.specs.Saved.Saves.{IsNextSave, slot_of}
use Rattle.bg_wire.specs.Saved.SlotLaws.{Slots, with_slot}
use Rattle.bg_wire.specs.declared.saves.slots.Slot.{Slot}
use Rattle.bg_protocol.specs.Protocol.Slots.{next_number}
use Rattle.bg_protocol.specs.declared.devices.DeviceFault.{DeviceFault}
use Rattle.bg_protocol.specs.declared.devices.DeviceFault.TheVariants.{Failed, Memory}
use Rattle.bg_protocol.specs.declared.nodes.saves.Save.{Save}
use Rattle.bg_fences.specs.SharedNodes.{IsNextAt}

-- a party began this save: its slot and its number are those of its text
abbrev pub IsBegunSave : Save → Type 0
IsBegunSave s = (p : SavedParts) × IsNextSave p (Ok (s.slot, s.number, s.text))

-- the write failed, and nothing was written
abbrev pub IsWriteRefused : Slots → Result (Unit {0}) DeviceFault → Slots → Type 0
IsWriteRefused old (Ok done) new = ⊥
IsWriteRefused old (Err fault) new = new ≡ old

-- the write of a save of this number passed the fence, or was refused
abbrev pub IsWriteFenced : Slots → ℕ → Result (Unit {0}) DeviceFault → Slots → Type 0
IsWriteFenced old number result new = IsNextAt old number ⊎ IsWriteRefused old result new

-- ---- a keeper that refuses no other write

-- the bytes are the text of the save after the one that the slots restore, and this is its slot
pub record IsNextText (slots : Slots) (slot : Slot) (bytes : List ℕ) : Type 0 where
  pub found : Option SavedParts
  pub restore : SlotsRestore slots.zero slots.one found
  pub next : SavedParts
  pub is_text : IsSavedText next bytes
  pub numbered : next.save ≡ next_number found
  pub in_turn : slot ≡ slot_of next.save

-- such a text is written, and any other bytes are refused; where there is no memory nothing is
-- written
abbrev pub WritesNext : Slots → Slot → List ℕ → Slots → Result (Unit {0}) DeviceFault → Type 0
WritesNext old slot bytes new (Ok done) =
    IsNextText old slot bytes × (new ≡ with_slot old slot bytes)
WritesNext old slot bytes new (Err Failed) = (IsNextText old slot bytes → ⊥) × (new ≡ old)
WritesNext old slot bytes new (Err Memory) = new ≡ old
