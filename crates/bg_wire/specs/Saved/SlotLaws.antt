-- What holds of saved texts and of slots: each is proved.
use Rattle.std.specs.Prelude.{◌≡◌, ◌≢◌, ◌⊎◌, ℕ, ◌+◌, ◌%◌, List, [], ◌++◌, Option, Some, None, Result, Ok, Err}
use Rattle.bg_match.specs.Terms.{Terms}
use Rattle.bg_wire.specs.Saved.SavedText.{SavedParts, IsSavedText, IsWrittenText}
use Rattle.bg_wire.specs.Saved.Saves.{slot_of}
use Rattle.bg_wire.specs.Saved.Restoring.{LoadsAs, SlotsRestore, IsSavedBy, Restores, parts_in}
use Rattle.bg_wire.specs.declared.saves.slots.Slot.{Slot}
use Rattle.bg_wire.specs.declared.saves.slots.Slot.TheVariants.{Zero, One}
use Rattle.bg_wire.specs.declared.saves.Saved.{Saved}
use Rattle.bg_wire.specs.declared.faults.RestoreRefusal.{RestoreRefusal}
use Rattle.bg_wire.specs.declared.faults.RestoreRefusal.TheVariants.{Damaged, WrongMatch, Memory}

-- ---- what loads

-- a proper front of a saved text loads as nothing
abbrev pub FrontsLoadAsNothing : Type 0
FrontsLoadAsNothing =
    (p : SavedParts) (front rest : List ℕ) → IsSavedText p (front ++ rest) → rest ≢ [] → LoadsAs front None

-- no empty text loads
abbrev pub EmptyLoadsAsNothing : Type 0
EmptyLoadsAsNothing = LoadsAs [] None

-- bytes load as one thing
abbrev pub LoadAsOneThing : Type 0
LoadAsOneThing = (bytes : List ℕ) (a b : Option SavedParts) → LoadsAs bytes a → LoadsAs bytes b → a ≡ b

-- what two slots restore is one thing
abbrev pub RestoreOneThing : Type 0
RestoreOneThing =
    (slot0 slot1 : List ℕ) (a b : Option SavedParts) → SlotsRestore slot0 slot1 a → SlotsRestore slot0 slot1 b → a ≡ b

-- it is what the saved text in one of them says
abbrev pub RestoreOneOfBoth : Type 0
RestoreOneOfBoth = (slot0 slot1 : List ℕ) (p : SavedParts) → SlotsRestore slot0 slot1 (Some p)
    → IsSavedText p slot0 ⊎ IsSavedText p slot1

-- ---- the slots of saves

-- the number of a slot
abbrev pub slot_number : Slot → ℕ
slot_number Zero = 0
slot_number One = 1

-- save k goes to slot k modulo 2
abbrev pub GoesByTurns : Type 0
GoesByTurns = (k : ℕ) → slot_number (slot_of k) ≡ k % 2

-- two saves in a row go to different slots
abbrev pub NextGoesToTheOther : Type 0
NextGoesToTheOther = (k : ℕ) → slot_of (k + 1) ≢ slot_of k

-- ---- what a save leaves

-- the bytes of the two slots of a party
pub record Slots : Type 0 where
  pub zero : List ℕ
  pub one : List ℕ

-- the bytes of one slot
abbrev pub bytes_in : Slots → Slot → List ℕ
bytes_in slots Zero = slots.zero
bytes_in slots One = slots.one

-- the slots with these bytes in one of them
abbrev pub with_slot : Slots → Slot → List ℕ → Slots
with_slot slots Zero bytes = record slots { zero = bytes }
with_slot slots One bytes = record slots { one = bytes }

-- the number of the save that is restored, and 0 where nothing is
abbrev pub save_in : Option SavedParts → ℕ
save_in None = 0
save_in (Some p) = p.save

-- the slots restore this, and its text stands in the slot of its save: so the next save goes over
-- the older of two texts
pub record AreWritten (slots : Slots) (restored : Option SavedParts) : Type 0 where
  pub restore : SlotsRestore slots.zero slots.one restored
  pub in_its_slot : (p : SavedParts) → restored ≡ Some p → IsSavedText p (bytes_in slots (slot_of p.save))

-- this is the save after the one that the slots restore, and this its text
pub record IsSaveAfter (slots : Slots) (old : Option SavedParts) (p : SavedParts) (text : List ℕ) : Type 0 where
  pub written : AreWritten slots old
  pub next : p.save ≡ save_in old + 1
  pub spelled : IsWrittenText p text

-- once the text of the next save is written, the slots restore it
abbrev pub WrittenIsRestored : Type 0
WrittenIsRestored = (slots : Slots) (old : Option SavedParts) (p : SavedParts) (text : List ℕ)
    → IsSaveAfter slots old p text → AreWritten (with_slot slots (slot_of p.save) text) (Some p)

-- where that text was written in part, the slots restore what they did, whatever was in its slot
-- before
abbrev pub TornIsNotRestored : Type 0
TornIsNotRestored = (slots : Slots) (old : Option SavedParts) (p : SavedParts) (front rest : List ℕ)
    → IsSaveAfter slots old p (front ++ rest) → rest ≢ [] → AreWritten (with_slot slots (slot_of p.save) front) old

-- ---- what restoring gives back

-- what restoring answers to the party of a match whose slots restore this: that, or it wants memory
abbrev pub GivesBack : Option SavedParts → Result (Option Saved) RestoreRefusal → Type 0
GivesBack restored (Ok found) = parts_in found ≡ restored
GivesBack restored (Err Damaged) = ⊥
GivesBack restored (Err WrongMatch) = ⊥
GivesBack restored (Err Memory) = Unit {0}

-- the party of a match may have these slots: what they restore is of that match, and slot 0 is
-- empty where that is nothing
abbrev pub AreOfMatch : ℕ → ℕ → Terms → Slots → Option SavedParts → Type 0
AreOfMatch party id terms slots None = slots.zero ≡ []
AreOfMatch party id terms slots (Some p) = IsSavedBy party id terms p

-- want of memory aside, restoring gives what the slots restore
abbrev pub GivesWhatSlotsRestore : Type 0
GivesWhatSlotsRestore =
    (slots : Slots) (restored : Option SavedParts) (party id : ℕ) (terms : Terms)
    (answer : Result (Option Saved) RestoreRefusal)
    → SlotsRestore slots.zero slots.one restored → AreOfMatch party id terms slots restored
    → Restores slots.zero slots.one party id terms answer → GivesBack restored answer
