-- What a party saves, and its texts: one in each layout, of which one is written.
use Rattle.std.specs.Prelude.{◌≡◌, ◌≢◌, ℕ, ◌<◌, ◌≤◌, ◌^◌, List, [], ◌++◌, length, Option, Some, None}
use Rattle.std.specs.List.{AllByRecursion}
use Rattle.bg_match.specs.Terms.{Terms, match_length, rules_of}
use Rattle.bg_match.specs.Entry.{IsAction}
use Rattle.bg_match.specs.Match.{Log, IsLegalRecord, IsFirstIllegal}
use Rattle.bg_match.specs.declared.actions.Action.{Action}
use Rattle.bg_match.specs.declared.entries.Entry.{Entry}
use Rattle.bg_match.specs.Limits.{shortest_match, longest_match}
use Rattle.bg_wire.specs.Entries.Codes.{first_number, seat_of_x, seat_of_o, least_save, greatest_save}
use Rattle.bg_wire.specs.Entries.Fields.{width_of}
use Rattle.bg_wire.specs.Saved.SavedLayouts.{last_number, front_text, AreRulesIn, IsEntryIn, saved_fields}
use Rattle.bg_wire.specs.declared.saves.layouts.Layout.{Layout}
use Rattle.bg_wire.specs.declared.saves.layouts.Layout.TheVariants.{Two}
use Rattle.bg_wire.specs.Entries.EntryText.{entries_bytes}
use Rattle.bg_wire.specs.declared.saves.Saved.{Saved}

-- what a saved text tells, which is all of a `Saved` but the room for further entries
pub record SavedParts : Type 0 where
  pub party : ℕ
  pub id : ℕ
  pub terms : Terms
  pub save : ℕ
  pub claim : Option (ℕ × Action)
  pub entries : List Entry

abbrev pub parts_with : ℕ → ℕ → Option (ℕ × Action) → Log → SavedParts
parts_with party save claim log = record {
  party = party;
  id = log.id;
  terms = log.terms;
  save = save;
  claim = claim;
  entries = log.entries;
}

abbrev pub parts_of : Saved → SavedParts
parts_of s = parts_with s.party s.save s.claim s.log

abbrev pub saved_text : Layout → SavedParts → List ℕ
saved_text layout p =
    front_text layout p.party p.id p.terms p.save p.claim (length p.entries) ++ entries_bytes p.entries

-- the one that a save writes
abbrev pub written_text : SavedParts → List ℕ
written_text p = saved_text Two p

-- the width of the field that begins behind these bytes of a saved text
abbrev pub saved_width : List ℕ → ℕ
saved_width before = width_of saved_fields before

-- the number and the action of a claim are in their ranges
abbrev pub IsKeptClaimIn : Layout → Option (ℕ × Action) → Type 0
IsKeptClaimIn layout None = Unit {0}
IsKeptClaimIn layout (Some claim) =
    (first_number ≤ claim.0) × (claim.0 ≤ last_number layout) × IsAction claim.1

-- the referee keeps no claim
abbrev pub IsClaimIn : Layout → ℕ → Option (ℕ × Action) → Type 0
IsClaimIn layout party None = Unit {0}
IsClaimIn layout party (Some claim) = (seat_of_x ≤ party) × IsKeptClaimIn layout (Some claim)

-- in the layout that is written
abbrev pub IsKeptClaim : Option (ℕ × Action) → Type 0
IsKeptClaim claim = IsKeptClaimIn Two claim

abbrev pub IsClaimOf : ℕ → Option (ℕ × Action) → Type 0
IsClaimOf party claim = IsClaimIn Two party claim

-- what may be saved; a record is in its ranges by itself
pub record IsSavable (p : SavedParts) : Type 0 where
  pub party : p.party ≤ seat_of_o
  pub first_save : least_save ≤ p.save
  pub last_save : p.save ≤ greatest_save
  pub claim : IsClaimOf p.party p.claim

-- all fields are in the ranges of a layout
pub record IsInLayout (layout : Layout) (p : SavedParts) : Type 0 where
  pub party : p.party ≤ seat_of_o
  pub id_fits : p.id < 2 ^ 64
  pub shortest : shortest_match ≤ match_length p.terms
  pub longest : match_length p.terms ≤ longest_match
  pub first_save : least_save ≤ p.save
  pub last_save : p.save ≤ greatest_save
  pub claim : IsClaimIn layout p.party p.claim
  pub few : length p.entries ≤ last_number layout
  pub rules : AreRulesIn layout (rules_of p.terms)
  pub in_range : AllByRecursion (IsEntryIn layout) p.entries

-- a layout holds, and these are its fields
pub record IsInLayoutOf (layout : Layout) (p : SavedParts) (bytes : List ℕ) : Type 0 where
  pub in_layout : IsInLayout layout p
  pub spelled : bytes ≡ saved_text layout p

-- one of the two layouts holds, and these are its fields
abbrev pub IsLayoutOf : SavedParts → List ℕ → Type 0
IsLayoutOf p bytes = (layout : Layout) × IsInLayoutOf layout p bytes

-- the bytes are a saved text: a layout holds, and the entries are legal
pub record IsSavedText (p : SavedParts) (bytes : List ℕ) : Type 0 where
  pub layout : IsLayoutOf p bytes
  pub legal : IsLegalRecord p.terms p.entries

-- the bytes are the text that a save writes: the second layout holds, and the entries are legal
pub record IsWrittenText (p : SavedParts) (bytes : List ℕ) : Type 0 where
  pub layout : IsInLayoutOf Two p bytes
  pub legal : IsLegalRecord p.terms p.entries

-- the layout holds, and the entry of this number is the first that does not follow
abbrev pub IsIllegalAt : ℕ → List ℕ → Type 0
IsIllegalAt n bytes = (p : SavedParts) × IsLayoutOf p bytes × IsFirstIllegal p.terms p.entries n

-- the layout holds, and there are entries
abbrev pub HasEntries : List ℕ → Type 0
HasEntries bytes = (p : SavedParts) × IsLayoutOf p bytes × (p.entries ≢ [])
