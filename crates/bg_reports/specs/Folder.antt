-- What `show` prints of the six saved files of a folder: what each holds, and who is behind whom.
use Rattle.std.specs.Prelude.{◌≡◌, ◌≢◌, ◌==◌, ℕ, ◌-◌, ◌≤◌, nat_lt, Bool, ◌||◌, List, [], ◌++◌, length, take}
use Rattle.std.specs.Prelude.{Option, None, Some, Result, is_ok, codes, if◌then◌else◌}
use Rattle.std.specs.Fmt.{decimal}
use Rattle.bg_match.specs.Match.{at_number}
use Rattle.bg_match.specs.declared.entries.Entry.{Entry}
use Rattle.bg_text.specs.Boards.BoardText.{line_text}
use Rattle.bg_wire.specs.Saved.Restoring.{LoadsAs, SlotsRestore}
use Rattle.bg_wire.specs.Saved.SavedText.{SavedParts}
use Rattle.bg_wire.specs.declared.faults.LoadFault.{LoadFault}
use Rattle.bg_reports.specs.Show.{IsHeld, IsBoardOf, held_part}
use Rattle.bg_reports.specs.declared.folders.comparing.Compared.{Compared}
use Rattle.bg_reports.specs.declared.folders.comparing.Compared.TheVariants.{OtherMatch, Differs, Behind}

-- two saved matches are of one match
abbrev pub IsSameMatch : SavedParts → SavedParts → Type 0
IsSameMatch a b = (a.id ≡ b.id) × (a.terms ≡ b.terms)

-- the entries of this number are the first that differ
pub record IsFirstDifference (n : ℕ) (entries others : List Entry) : Type 0 where
  pub first : 1 ≤ n
  pub held : n ≤ length entries
  pub held_there : n ≤ length others
  pub differ : at_number entries n ≢ at_number others n
  pub before : take (n - 1) entries ≡ take (n - 1) others

-- as far as both go, the entries are the same
abbrev pub Agree : List Entry → List Entry → Type 0
Agree entries others = take (length others) entries ≡ take (length entries) others

-- how one saved match goes on beside another: it is of another match; an entry differs; or they
-- agree as far as both go
abbrev pub IsCompared : Compared → SavedParts → SavedParts → Type 0
IsCompared OtherMatch a b = IsSameMatch a b → ⊥
IsCompared (Differs n) a b = IsSameMatch a b × IsFirstDifference n a.entries b.entries
IsCompared (Behind n) a b = IsSameMatch a b × Agree a.entries b.entries × (n ≡ length b.entries - length a.entries)

-- what a party's files restore, if it is a save of its own
abbrev pub own : ℕ → Option SavedParts → Option SavedParts
own party None = None
own party (Some saved) = if saved.party == party then Some saved else None

-- what the two files of a party hold, and what each loads as
pub record AreHeldIn (slot0 slot1 : List ℕ) (zero one : Result SavedParts LoadFault)
    (loaded0 loaded1 : Option SavedParts) : Type 0 where
  pub first : IsHeld slot0 zero
  pub second : IsHeld slot1 one
  pub first_loads : LoadsAs slot0 loaded0
  pub second_loads : LoadsAs slot1 loaded1

-- what the two files of a party hold, and the save of its own that they restore
pub record AreHeldBy (party : ℕ) (slot0 slot1 : List ℕ) (zero one : Result SavedParts LoadFault)
    (saved : Option SavedParts) : Type 0 where
  pub first : IsHeld slot0 zero
  pub second : IsHeld slot1 one
  pub restored : Option SavedParts
  pub restores : SlotsRestore slot0 slot1 restored
  pub is_own : saved ≡ own party restored

-- of two the one with more entries, and the first where they have as many
abbrev pub further : Option SavedParts → Option SavedParts → Option SavedParts
further None b = b
further (Some a) None = Some a
further (Some a) (Some b) = if nat_lt (length a.entries) (length b.entries) then Some b else Some a

-- the line of a file
abbrev pub slot_line : ℕ → ℕ → List ℕ → Result SavedParts LoadFault → List ℕ
slot_line party slot bytes held =
    codes "party-" ++ decimal party ++ codes "." ++ decimal slot ++ codes ": "
    ++ (if length bytes == 0 then codes "empty" else held_part held)

abbrev pub slot_lines : ℕ → List ℕ → List ℕ → Result SavedParts LoadFault → Result SavedParts LoadFault → List ℕ
slot_lines party slot0 slot1 zero one =
    line_text (slot_line party 0 slot0 zero) ++ line_text (slot_line party 1 slot1 one)

-- how a party's match goes on beside that of the one who holds most
abbrev pub compared_words : Compared → ℕ → List ℕ
compared_words OtherMatch leader = codes " of another match than party " ++ decimal leader
compared_words (Differs n) leader =
    codes ", entry " ++ decimal n ++ codes " is another than that of party " ++ decimal leader
compared_words (Behind n) leader =
    if n == 0 then [] else codes ", " ++ decimal n ++ codes " behind party " ++ decimal leader

-- how many entries a save has, beside the one who holds most
abbrev pub IsHolding : SavedParts → Option SavedParts → List ℕ → Type 0
IsHolding saved None words = words ≡ decimal (length saved.entries) ++ codes " entries"
IsHolding saved (Some leader) words =
    (c : Compared) × IsCompared c saved leader
    × (words ≡ decimal (length saved.entries) ++ codes " entries" ++ compared_words c leader.party)

-- the line of a party, with this save of its own, beside the one who holds most
abbrev pub IsPartyLine : ℕ → Option SavedParts → Option SavedParts → List ℕ → Type 0
IsPartyLine party None leader line = line ≡ codes "party " ++ decimal party ++ codes ": no save"
IsPartyLine party (Some saved) leader line =
    (words : List ℕ) × IsHolding saved leader words × (line ≡ codes "party " ++ decimal party ++ codes ": " ++ words)

-- what is printed of a folder that has the two files of one party alone, and whether one of them
-- loads
pub record IsPartyText (party : ℕ) (slot0 slot1 text : List ℕ) (loads : Bool) : Type 0 where
  pub zero : Result SavedParts LoadFault
  pub one : Result SavedParts LoadFault
  pub saved : Option SavedParts
  pub held : AreHeldBy party slot0 slot1 zero one saved
  pub line : List ℕ
  pub told : IsPartyLine party saved None line
  pub board : List ℕ
  pub drawn : IsBoardOf saved board
  pub printed : text ≡ slot_lines party slot0 slot1 zero one ++ line_text line ++ board
  pub flag : loads ≡ is_ok zero || is_ok one

-- what is printed of a folder with these six files, and whether one of them loads. The board is
-- that of the party who holds most
pub record IsFolderText (a0 a1 b0 b1 c0 c1 text : List ℕ) (loads : Bool) : Type 0 where
  pub zero0 : Result SavedParts LoadFault
  pub zero1 : Result SavedParts LoadFault
  pub one0 : Result SavedParts LoadFault
  pub one1 : Result SavedParts LoadFault
  pub two0 : Result SavedParts LoadFault
  pub two1 : Result SavedParts LoadFault
  pub referee : Option SavedParts
  pub x : Option SavedParts
  pub o : Option SavedParts
  pub held_by_referee : AreHeldBy 0 a0 a1 zero0 zero1 referee
  pub held_by_x : AreHeldBy 1 b0 b1 one0 one1 x
  pub held_by_o : AreHeldBy 2 c0 c1 two0 two1 o
  pub line0 : List ℕ
  pub line1 : List ℕ
  pub line2 : List ℕ
  pub of_referee : IsPartyLine 0 referee (further (further referee x) o) line0
  pub of_x : IsPartyLine 1 x (further (further referee x) o) line1
  pub of_o : IsPartyLine 2 o (further (further referee x) o) line2
  pub board : List ℕ
  pub drawn : IsBoardOf (further (further referee x) o) board
  pub printed : text ≡ slot_lines 0 a0 a1 zero0 zero1 ++ slot_lines 1 b0 b1 one0 one1 ++ slot_lines 2 c0 c1 two0 two1
      ++ line_text line0 ++ line_text line1 ++ line_text line2 ++ board
  pub flag : loads ≡ is_ok zero0 || is_ok zero1 || is_ok one0 || is_ok one1 || is_ok two0 || is_ok two1
