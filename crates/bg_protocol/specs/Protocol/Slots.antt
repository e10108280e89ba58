-- What a save leaves in the slots of a party, and what they restore.
use Rattle.std.specs.Prelude.{◌≡◌, ◌⊎◌, ℕ, suc, Option, Some, None, List, [], ◌++◌}
use Rattle.bg_match.specs.declared.actions.Action.{Action}
use Rattle.bg_match.specs.declared.entries.Entry.{Entry}
use Rattle.bg_wire.specs.Saved.Restoring.{SlotsRestore}
use Rattle.bg_wire.specs.Saved.SavedText.{SavedParts, IsWrittenText}
use Rattle.bg_wire.specs.Saved.Saves.{slot_of}
use Rattle.bg_wire.specs.Saved.SlotLaws.{Slots, bytes_in, with_slot, save_in}

abbrev pub empty_slots : Slots
empty_slots = record { zero = []; one = [] }

-- of what slots restore: its entries and its claim, none where they restore nothing
abbrev pub entries_in : Option SavedParts → List Entry
entries_in None = []
entries_in (Some p) = p.entries

abbrev pub claim_in : Option SavedParts → Option (ℕ × Action)
claim_in None = None
claim_in (Some p) = p.claim

-- the number of the save that comes after it
abbrev pub next_number : Option SavedParts → ℕ
next_number restorable = suc (save_in restorable)

-- what a write that failed may leave in its slot: what was there, or any number of the first bytes
-- of the text
abbrev pub MayBeLeft : List ℕ → List ℕ → List ℕ → Type 0
MayBeLeft old text left = (left ≡ old) ⊎ ((rest : List ℕ) × (left ++ rest ≡ text))

-- the bytes stand in the slot of this save, the other slot is as it was, and this is what the slots
-- restore then
pub record AfterWrite
    (old : Slots) (save : ℕ) (bytes : List ℕ) (new : Slots) (restorable : Option SavedParts) : Type 0 where
  pub slots : new ≡ with_slot old (slot_of save) bytes
  pub restore : SlotsRestore new.zero new.one restorable

-- a save that was written: its text stands in its slot
pub record SaveWritten (p : SavedParts) (old new : Slots) (restorable : Option SavedParts) : Type 0 where
  pub text : List ℕ
  pub is_text : IsWrittenText p text
  pub after : AfterWrite old p.save text new restorable

-- a save that was not written: its slot is as it was, or has a front of the text
pub record SaveTorn (p : SavedParts) (old new : Slots) (restorable : Option SavedParts) : Type 0 where
  pub text : List ℕ
  pub is_text : IsWrittenText p text
  pub left : List ℕ
  pub torn : MayBeLeft (bytes_in old (slot_of p.save)) text left
  pub after : AfterWrite old p.save left new restorable
