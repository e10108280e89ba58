-- Reading saved texts, as the code does it: words of private contracts, of which no public clause
-- speaks.
use Rattle.std.specs.Prelude.{◌≡◌, ◌≢◌, [], ◌==◌, ℕ, List, length, Option, Some, None, Result, Ok, Err, IsOk, if◌then◌else◌}
use Rattle.bg_match.specs.declared.actions.Action.{Action}
use Rattle.bg_match.specs.declared.entries.Entry.{Entry}
use Rattle.bg_match.specs.declared.entries.EntryFault.{EntryFault}
use Rattle.bg_match.specs.declared.entries.EntryFault.TheVariants as entry_fault
use Rattle.bg_match.specs.Limits.{shortest_match, longest_match}
use Rattle.bg_match.specs.Terms.{terms_of}
use Rattle.bg_match.specs.declared.limits.Rules.{Rules}
use Rattle.bg_match.specs.declared.limits.Rules.TheVariants as rules
use Rattle.bg_wire.specs.Entries.Codes.{first_number, referee, seat_of_o, magic_offset, no_claim_flag, claim_flag, least_save, greatest_save}
use Rattle.bg_wire.specs.Entries.Reading.{◌>>=◌, Cursor, Read, u8_at, u16_at, u32_at, u64_at, many_at, whole_of}
use Rattle.bg_wire.specs.Entries.EntryReading.{action_at, entry_at}
use Rattle.bg_wire.specs.Entries.RulesReading.{rules_at}
use Rattle.bg_match.specs.Match.{Log, IsLegalRecord, IsFirstIllegal}
use Rattle.bg_wire.specs.Saved.SavedText.{SavedParts, parts_of}
use Rattle.bg_wire.specs.declared.saves.Saved.{Saved}
use Rattle.bg_wire.specs.declared.faults.LoadFault.{LoadFault}
use Rattle.bg_wire.specs.declared.faults.LoadFault.TheVariants as fault
use Rattle.bg_wire.specs.declared.entries.reader.ReadFault.{ReadFault}
use Rattle.bg_wire.specs.declared.entries.reader.ReadFault.TheVariants as read_fault
use Rattle.bg_wire.specs.declared.saves.layouts.Front.{Front}
use Rattle.bg_wire.specs.declared.saves.layouts.Layout.{Layout}
use Rattle.bg_wire.specs.declared.saves.layouts.Layout.TheVariants.{One, Two}
use Rattle.bg_wire.specs.Saved.SavedLayouts.{magic_of, last_number, front_text, layout_of_magic}

-- the first field has a fault of its own
abbrev pub load_fault : ReadFault → LoadFault
load_fault read_fault.Short = fault.Short
load_fault (read_fault.Field at) = if at == magic_offset then fault.Magic else fault.Field at

-- the referee keeps no claim
abbrev pub most_flag : ℕ → ℕ
most_flag party = if party == referee then no_claim_flag else claim_flag

-- a number of an entry, from low to the greatest of the layout
unfoldable pub number_in : Layout → ℕ → Cursor → Read ℕ
number_in One low = u16_at low (last_number One)
number_in Two low = u32_at low (last_number Two)

unfoldable pub kept_claim_in : Layout → Cursor → Read (Option (ℕ × Action))
kept_claim_in layout c = do
  number ← number_in layout first_number c
  action ← action_at number.1
  Ok (Some (number.0, action.0), action.1)

-- what follows the claim flag
abbrev pub flagged_in : Layout → ℕ → Cursor → Read (Option (ℕ × Action))
flagged_in layout flag c = if flag == no_claim_flag then Ok (None, c) else kept_claim_in layout c

unfoldable pub saved_claim_in : Layout → ℕ → Cursor → Read (Option (ℕ × Action))
saved_claim_in layout party c = do
  flag ← u8_at no_claim_flag (most_flag party) c
  flagged_in layout flag.0 flag.1

-- the rules, where they are told
unfoldable pub rules_in : Layout → Cursor → Read Rules
rules_in One c = Ok (rules.One, c)
rules_in Two c = rules_at c

-- what stands before the entries, as its reader holds it
abbrev pub front_of : Layout → SavedParts → Front
front_of layout p = record {
  layout = layout;
  party = p.party;
  id = p.id;
  terms = p.terms;
  save = p.save;
  claim = p.claim;
  count = length p.entries;
}

-- its text
abbrev pub text_of_front : Front → List ℕ
text_of_front f = front_text f.layout f.party f.id f.terms f.save f.claim f.count

-- what stands behind the magic
unfoldable pub front_in : Layout → Cursor → Read Front
front_in layout c = do
  party ← u8_at referee seat_of_o c
  id ← u64_at party.1
  points ← u8_at shortest_match longest_match id.1
  which ← rules_in layout points.1
  save ← u32_at least_save greatest_save which.1
  claim ← saved_claim_in layout party.0 save.1
  count ← number_in layout 0 claim.1
  Ok (
    record {
      layout = layout;
      party = party.0;
      id = id.0;
      terms = terms_of points.0 which.0;
      save = save.0;
      claim = claim.0;
      count = count.0;
    },
    count.1,
  )

unfoldable pub front_at : Cursor → Read Front
front_at c = do
  magic ← u32_at (magic_of One) (magic_of Two) c
  front_in (layout_of_magic magic.0) magic.1

abbrev pub parts_of_front : Front → List Entry → SavedParts
parts_of_front f entries = record {
  party = f.party;
  id = f.id;
  terms = f.terms;
  save = f.save;
  claim = f.claim;
  entries = entries;
}

unfoldable pub saved_at : Cursor → Read SavedParts
saved_at c = do
  front ← front_at c
  entries ← many_at (entry_at (front.0).layout) (front.0).count front.1
  Ok (parts_of_front front.0 entries.0, entries.1)

-- the fields where the layout holds, whatever the entries are
unfoldable pub layout_of : List ℕ → Result SavedParts LoadFault
layout_of bytes = whole_of load_fault fault.Extra (saved_at (record { at = 0; rest = bytes }))

-- the entries behind the front, where so many stand there and the text ends behind them
abbrev pub entries_of : Layout → ℕ → Cursor → Result (List Entry) LoadFault
entries_of layout count c = whole_of load_fault fault.Extra (many_at (entry_at layout) count c)

-- the fields, by the front and what the entries behind it are
abbrev pub fields_of : Front → Result (List Entry) LoadFault → Result SavedParts LoadFault
fields_of f (Ok entries) = Ok (parts_of_front f entries)
fields_of f (Err why) = Err why

-- the front, and where the entries begin
abbrev pub ReadsFront : Result (Front × Cursor) LoadFault → List ℕ → Type 0
ReadsFront (Ok parts) bytes = layout_of bytes ≡ fields_of parts.0 (entries_of (parts.0).layout (parts.0).count parts.1)
ReadsFront (Err why) bytes = layout_of bytes ≡ Err why

-- entries that are passed over: whether they are there
abbrev pub Passes : Result (Unit {0}) LoadFault → Result (List Entry) LoadFault → Type 0
Passes (Ok done) read = IsOk read
Passes (Err why) read = read ≡ Err why

-- what appending an entry was refused for, as a fault of loading
abbrev pub append_fault : ℕ → EntryFault → LoadFault
append_fault n entry_fault.Memory = fault.Memory
append_fault n _ = fault.Illegal n

-- what is answered where entries are appended to a record that has none: the fault of the layout,
-- where it has one, else the first entry that does not follow, want of memory aside
abbrev pub Replays : {A : Type 0} → Result A LoadFault → Log → Log → Result (List Entry) LoadFault → Type 0
Replays result old new (Err why) = result ≡ Err why
Replays (Ok _) old new (Ok entries) =
    (new ≡ record old { entries = entries; spare = new.spare }) × IsLegalRecord old.terms entries
Replays (Err fault.Memory) old new (Ok entries) = entries ≢ []
Replays (Err (fault.Illegal n)) old new (Ok entries) = IsFirstIllegal old.terms entries n
Replays (Err _) old new (Ok entries) = ⊥

-- what loading answers, by what the layout gives. Memory is wanted for entries alone
abbrev pub Loads : Result Saved LoadFault → Result SavedParts LoadFault → Type 0
Loads result (Err why) = result ≡ Err why
Loads (Ok s) (Ok p) = (parts_of s ≡ p) × IsLegalRecord p.terms p.entries
Loads (Err fault.Memory) (Ok p) = p.entries ≢ []
Loads (Err (fault.Illegal n)) (Ok p) = IsFirstIllegal p.terms p.entries n
Loads (Err _) (Ok p) = ⊥
