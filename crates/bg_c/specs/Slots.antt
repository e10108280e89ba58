-- What is read of the two slots of a party.
use Rattle.std.specs.Prelude.{◌≡◌, ◌⊎◌, ◌==◌, ◌+◌, ◌%◌, ℕ, ◌<◌, List, length, replicate, Option, Some, None, Result, Ok, Err}
use Rattle.std.specs.Prelude.{MatchOption, if◌then◌else◌, nat_lt}
use Rattle.bg_match.specs.Terms.{Terms}
use Rattle.bg_wire.specs.Entries.Codes.{first_watcher}
use Rattle.bg_wire.specs.Saved.Restoring.{Restores}
use Rattle.bg_wire.specs.Saved.SavedText.{HasEntries, IsSavedText, SavedParts}
use Rattle.bg_wire.specs.declared.faults.RestoreRefusal.{RestoreRefusal}
use Rattle.bg_wire.specs.declared.saves.Saved.{Saved}
use Rattle.bg_party.specs.Claims.{claim_number}
use Rattle.bg_c.specs.Answers.{restore_status}
use Rattle.bg_c.specs.SavedTexts.{IsNoSave}
use Rattle.bg_c.specs.Terms.{terms_numbered}
use Rattle.bg_c.specs.declared.slots.SavedFields.{SavedFields}
use Rattle.bg_c.specs.declared.statuses.Status.{Status}
use Rattle.bg_c.specs.declared.statuses.Status.TheVariants.{BadArgument, Memory}

-- ---- where the saved texts stand

-- the number of the save whose text a slot has, if it has one
abbrev pub TellsSave : List ℕ → Option ℕ → Type 0
TellsSave bytes (Some save) = (p : SavedParts) × IsSavedText p bytes × (save ≡ p.save)
TellsSave bytes None = IsNoSave bytes

-- the slot of the newer of two saves, and slot 0 where they are equal
abbrev pub newer_slot : Option ℕ → Option ℕ → ℕ
newer_slot None second = 1
newer_slot (Some first) None = 0
newer_slot (Some first) (Some second) = if nat_lt first second then 1 else 0

-- save k goes to slot k modulo 2: a text of slot 0 has an even number, and one of slot 1 an odd one
abbrev pub misplaced_in_zero : Option ℕ → ℕ
misplaced_in_zero None = 0
misplaced_in_zero (Some save) = if save % 2 == 0 then 0 else 1

abbrev pub misplaced_in_one : Option ℕ → ℕ
misplaced_in_one None = 0
misplaced_in_one (Some save) = if save % 2 == 0 then 2 else 0

-- 1 where the text of slot 0 belongs into the other slot, 2 where that of slot 1 does, 3 where both
-- do
abbrev pub misplaced : Option ℕ → Option ℕ → ℕ
misplaced first second = misplaced_in_zero first + misplaced_in_one second

-- ---- what they restore

abbrev pub nothing_saved : SavedFields
nothing_saved = record {
  found = 0;
  slot = 0;
  save = 0;
  entries = 0;
  claim = 0;
  misplaced = 0;
  reserved = replicate 2 0;
}

-- what is saved, beside the numbers of the saves in both slots
abbrev pub saved_fields : Saved → Option ℕ → Option ℕ → SavedFields
saved_fields saved first second = record {
  found = 1;
  slot = newer_slot first second;
  save = saved.save;
  entries = length saved.log.entries;
  claim = claim_number saved.claim;
  misplaced = misplaced first second;
  reserved = replicate 2 0;
}

-- what is told of a save that the slots restore. Memory is wanted for entries alone
abbrev pub Locates : List ℕ → List ℕ → Saved → Result SavedFields Status → Type 0
Locates slot0 slot1 saved (Ok fields) =
    (first second : Option ℕ) × TellsSave slot0 first × TellsSave slot1 second
    × (fields ≡ saved_fields saved first second)
Locates slot0 slot1 saved (Err why) = (why ≡ Memory) × (HasEntries slot0 ⊎ HasEntries slot1)

-- what is told of what they restore
abbrev pub Tells : List ℕ → List ℕ → Result (Option Saved) RestoreRefusal → Result SavedFields Status → Type 0
Tells slot0 slot1 (Ok (Some saved)) made = Locates slot0 slot1 saved made
Tells slot0 slot1 (Ok None) made = made ≡ Ok nothing_saved
Tells slot0 slot1 (Err why) made = made ≡ Err (restore_status why)

-- in a match of these terms
abbrev pub ReadsOfMatch : List ℕ → List ℕ → ℕ → ℕ → Terms → Result SavedFields Status → Type 0
ReadsOfMatch slot0 slot1 number id terms made =
    (found : Result (Option Saved) RestoreRefusal) × Restores slot0 slot1 number id terms found
    × Tells slot0 slot1 found made

-- the referee and the seats have slots
pub record ReadsOfParty
    (slot0 slot1 : List ℕ) (number id : ℕ) (terms : Terms) (made : Result SavedFields Status) : Type 0 where
  pub slots : number < first_watcher → ReadsOfMatch slot0 slot1 number id terms made
  pub none : (number < first_watcher → ⊥) → made ≡ Err BadArgument

-- what is read of the slots of a party in a match of this length by these rules
abbrev pub ReadsSlots : List ℕ → List ℕ → ℕ → ℕ → ℕ → ℕ → Result SavedFields Status → Type 0
ReadsSlots slot0 slot1 number id points rules made =
    MatchOption (terms_numbered points rules) (made ≡ Err BadArgument)
    (λ terms. ReadsOfParty slot0 slot1 number id terms made)
