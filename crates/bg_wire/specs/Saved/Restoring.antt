-- What the two slots of a party restore.
use Rattle.std.specs.Prelude.{◌≡◌, ◌≢◌, ◌⊎◌, ℕ, List, [], Option, Some, None, Result, Ok, Err, nat_lt, IfSome, if◌then◌else◌}
use Rattle.bg_match.specs.Terms.{Terms}
use Rattle.bg_wire.specs.Saved.SavedText.{SavedParts, IsSavedText, IsSavable, HasEntries, parts_of}
use Rattle.bg_wire.specs.declared.saves.Saved.{Saved}
use Rattle.bg_wire.specs.declared.faults.RestoreRefusal.{RestoreRefusal}
use Rattle.bg_wire.specs.declared.faults.RestoreRefusal.TheVariants.{Damaged, WrongMatch, Memory}

-- what the bytes of one slot load as: the match that they are the saved text of, or nothing, where
-- they are none
abbrev pub LoadsAs : List ℕ → Option SavedParts → Type 0
LoadsAs bytes (Some p) = IsSavedText p bytes
LoadsAs bytes None = (p : SavedParts) → IsSavedText p bytes → ⊥

-- of two saved matches the one whose save has the greater number, and the first where they are
-- equal
abbrev pub newer : Option SavedParts → Option SavedParts → Option SavedParts
newer None second = second
newer (Some first) None = Some first
newer (Some first) (Some second) = if nat_lt first.save second.save then Some second else Some first

-- what the bytes of the two slots restore: of what loads the newer one, and nothing where neither
-- loads
pub record SlotsRestore (slot0 slot1 : List ℕ) (restored : Option SavedParts) : Type 0 where
  pub first : Option SavedParts
  pub second : Option SavedParts
  pub first_loads : LoadsAs slot0 first
  pub second_loads : LoadsAs slot1 second
  pub is_newer : restored ≡ newer first second

-- it is this party's, of the match with this id and these terms
pub record IsSavedBy (of_party of_id : ℕ) (of_terms : Terms) (p : SavedParts) : Type 0 where
  pub party : p.party ≡ of_party
  pub id : p.id ≡ of_id
  pub terms : p.terms ≡ of_terms

-- the parts of a saved match, if there is one
abbrev pub parts_in : Option Saved → Option SavedParts
parts_in None = None
parts_in (Some saved) = Some (parts_of saved)

-- the saved match, if there is one, may be saved again
abbrev pub IsSavableIn : Option Saved → Type 0
IsSavableIn found = IfSome found (λ saved. IsSavable (parts_of saved))

-- what restoring answers to a party of a match. Memory is wanted for entries alone
abbrev pub Restores : List ℕ → List ℕ → ℕ → ℕ → Terms → Result (Option Saved) RestoreRefusal → Type 0
Restores slot0 slot1 party id terms (Ok (Some saved)) =
    SlotsRestore slot0 slot1 (Some (parts_of saved)) × IsSavedBy party id terms (parts_of saved)
Restores slot0 slot1 party id terms (Ok None) = SlotsRestore slot0 slot1 None × (slot0 ≡ [])
Restores slot0 slot1 party id terms (Err Damaged) = SlotsRestore slot0 slot1 None × (slot0 ≢ [])
Restores slot0 slot1 party id terms (Err WrongMatch) =
    (p : SavedParts) × SlotsRestore slot0 slot1 (Some p) × (IsSavedBy party id terms p → ⊥)
Restores slot0 slot1 party id terms (Err Memory) = HasEntries slot0 ⊎ HasEntries slot1
