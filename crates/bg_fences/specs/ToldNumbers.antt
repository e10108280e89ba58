-- The numbers of saves, as they are read, for private contracts.
use Rattle.std.specs.Prelude.{◌≡◌, ℕ, List, Option, Result, Ok, Err}
use Rattle.bg_wire.specs.Saved.Restoring.{LoadsAs, SlotsRestore}
use Rattle.bg_wire.specs.Saved.SavedText.{SavedParts}
use Rattle.bg_wire.specs.Saved.SlotLaws.{Slots, save_in}
use Rattle.bg_protocol.specs.declared.devices.DeviceFault.{DeviceFault}
use Rattle.bg_protocol.specs.declared.devices.DeviceFault.TheVariants.{Failed, Memory}

-- the number of the save whose text the bytes are, and 0 where they are none; or memory is wanted
abbrev pub TellsNumber : List ℕ → Result ℕ DeviceFault → Type 0
TellsNumber bytes (Ok number) =
    (found : Option SavedParts) × LoadsAs bytes found × (number ≡ save_in found)
TellsNumber bytes (Err Failed) = ⊥
TellsNumber bytes (Err Memory) = Unit {0}

-- the same of the save that the slots restore
abbrev pub TellsNewest : Slots → Result ℕ DeviceFault → Type 0
TellsNewest slots (Ok number) =
    (found : Option SavedParts) × SlotsRestore slots.zero slots.one found
    × (number ≡ save_in found)
TellsNewest slots (Err Failed) = ⊥
TellsNewest slots (Err Memory) = Unit {0}
