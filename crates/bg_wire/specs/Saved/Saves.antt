-- The saves of a party.
use Rattle.std.specs.Prelude.{◌≡◌, ◌==◌, ℕ, ◌<◌, ◌≤◌, ◌%◌, Result, Ok, Err, if◌then◌else◌}
use Rattle.std.specs.Global.{Vec}
use Rattle.bg_wire.specs.Entries.Codes.{greatest_save}
use Rattle.bg_wire.specs.declared.saves.slots.Slot.{Slot}
use Rattle.bg_wire.specs.declared.saves.slots.Slot.TheVariants.{Zero, One}
use Rattle.bg_wire.specs.declared.faults.SaveRefusal.{SaveRefusal}
use Rattle.bg_wire.specs.declared.faults.SaveRefusal.TheVariants.{SavesSpent, Memory}
use Rattle.bg_wire.specs.Saved.SavedText.{SavedParts, IsWrittenText}

-- the slot of a save: a slot of its own for even numbers, and one for odd ones
abbrev pub slot_of : ℕ → Slot
slot_of save = if save % 2 == 0 then Zero else One

-- what the next save is, or why there is none: its slot, its number and its text
abbrev pub IsNextSave : SavedParts → Result (Slot × ℕ × Vec ℕ) SaveRefusal → Type 0
IsNextSave p (Ok s) = (s.0 ≡ slot_of p.save) × (s.1 ≡ p.save) × IsWrittenText p s.2.items
IsNextSave p (Err SavesSpent) = greatest_save < p.save
IsNextSave p (Err Memory) = p.save ≤ greatest_save
