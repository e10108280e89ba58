-- What is read of the slots, for private contracts.
use Rattle.std.specs.Prelude.{◌⊎◌, List, ℕ, Option, Some, None, Result, Ok, Err}
use Rattle.bg_wire.specs.Saved.SavedText.{SavedParts, HasEntries}
use Rattle.bg_wire.specs.Saved.Restoring.{LoadsAs, SlotsRestore, parts_in}
use Rattle.bg_wire.specs.declared.saves.Saved.{Saved}
use Rattle.bg_wire.specs.declared.faults.RestoreRefusal.{RestoreRefusal}
use Rattle.bg_wire.specs.declared.faults.RestoreRefusal.TheVariants.{Damaged, WrongMatch, Memory}

-- what a slot's bytes load as, or that there is no memory for their entries
abbrev pub ReadsSlot : List ℕ → Result (Option Saved) RestoreRefusal → Type 0
ReadsSlot bytes (Ok found) = LoadsAs bytes (parts_in found)
ReadsSlot bytes (Err Damaged) = ⊥
ReadsSlot bytes (Err WrongMatch) = ⊥
ReadsSlot bytes (Err Memory) = HasEntries bytes

-- what the first of two slots loads as, and the other one where the first is none
abbrev pub LoadsFirst : List ℕ → List ℕ → Option SavedParts → Type 0
LoadsFirst first other (Some p) = LoadsAs first (Some p) ⊎ (LoadsAs first None × LoadsAs other (Some p))
LoadsFirst first other None = LoadsAs first None × LoadsAs other None

-- so it is read, or there is no memory for the entries of one of both
abbrev pub ReadsFirst : List ℕ → List ℕ → Result (Option Saved) RestoreRefusal → Type 0
ReadsFirst first other (Ok found) = LoadsFirst first other (parts_in found)
ReadsFirst first other (Err Damaged) = ⊥
ReadsFirst first other (Err WrongMatch) = ⊥
ReadsFirst first other (Err Memory) = HasEntries first ⊎ HasEntries other

-- what both slots restore, or that there is no memory for the entries of one of both
abbrev pub ReadsSlots : List ℕ → List ℕ → Result (Option Saved) RestoreRefusal → Type 0
ReadsSlots slot0 slot1 (Ok found) = SlotsRestore slot0 slot1 (parts_in found)
ReadsSlots slot0 slot1 (Err Damaged) = ⊥
ReadsSlots slot0 slot1 (Err WrongMatch) = ⊥
ReadsSlots slot0 slot1 (Err Memory) = HasEntries slot0 ⊎ HasEntries slot1
