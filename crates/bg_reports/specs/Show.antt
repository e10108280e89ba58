-- What `show` prints of two saved files of a party.
use Rattle.std.specs.Prelude.{◌≡◌, ℕ, Bool, List, [], ◌++◌, length, Option, Some, None, Result, Ok, Err, is_ok, ◌||◌}
use Rattle.std.specs.Prelude.{codes}
use Rattle.std.specs.Fmt.{decimal}
use Rattle.bg_match.specs.Match.{StandsAt}
use Rattle.bg_match.specs.State.{State}
use Rattle.bg_match.specs.declared.actions.Action.{Action}
use Rattle.bg_text.specs.Boards.BoardText.{line_text, board_text}
use Rattle.bg_text.specs.Boards.TermsText.{terms_text}
use Rattle.bg_wire.specs.Faults.{IsLoadFault}
use Rattle.bg_wire.specs.FaultWords.{load_fault_words}
use Rattle.bg_wire.specs.Saved.Restoring.{LoadsAs, SlotsRestore}
use Rattle.bg_wire.specs.Saved.SavedText.{SavedParts, parts_of}
use Rattle.bg_wire.specs.declared.saves.Saved.{Saved}
use Rattle.bg_wire.specs.declared.faults.LoadFault.{LoadFault}
use Rattle.bg_wire.specs.declared.faults.LoadFault.TheVariants.{Memory}

-- what a file holds: the saved match that it loads as, or the fault of its bytes
abbrev pub IsHeld : List ℕ → Result SavedParts LoadFault → Type 0
IsHeld bytes (Ok saved) = LoadsAs bytes (Some saved)
IsHeld bytes (Err Memory) = ⊥
IsHeld bytes (Err why) = IsLoadFault why bytes

abbrev pub claim_part : Option (ℕ × Action) → List ℕ
claim_part None = []
claim_part (Some claim) = codes " claim " ++ decimal claim.0

abbrev pub match_part : SavedParts → List ℕ
match_part saved =
    codes "party " ++ decimal saved.party ++ codes " match " ++ decimal saved.id
    ++ codes " " ++ terms_text saved.terms

abbrev pub save_part : SavedParts → List ℕ
save_part saved =
    codes " save " ++ decimal saved.save ++ codes " entries " ++ decimal (length saved.entries)
    ++ claim_part saved.claim

-- what is said of a file
abbrev pub held_part : Result SavedParts LoadFault → List ℕ
held_part (Ok saved) = match_part saved ++ save_part saved
held_part (Err why) = load_fault_words why

abbrev pub file_line : ℕ → Result SavedParts LoadFault → List ℕ
file_line file held = codes "file " ++ decimal file ++ codes ": " ++ held_part held

-- the board of a saved match, if there is one
abbrev pub IsBoardOf : Option SavedParts → List ℕ → Type 0
IsBoardOf None text = text ≡ []
IsBoardOf (Some saved) text =
    (t : State) × StandsAt saved.terms saved.entries t × (text ≡ board_text t)

-- what `show` prints of two files, and whether one of them loads. The board is that of what the two
-- restore
pub record IsShowText (file0 file1 text : List ℕ) (loads : Bool) : Type 0 where
  pub zero : Result SavedParts LoadFault
  pub one : Result SavedParts LoadFault
  pub restored : Option SavedParts
  pub board : List ℕ
  pub first : IsHeld file0 zero
  pub second : IsHeld file1 one
  pub restores : SlotsRestore file0 file1 restored
  pub drawn : IsBoardOf restored board
  pub printed : text ≡ line_text (file_line 0 zero) ++ line_text (file_line 1 one) ++ board
  pub flag : loads ≡ is_ok zero || is_ok one

-- what a loaded file holds, in plain parts
abbrev pub held_of : Result Saved LoadFault → Result SavedParts LoadFault
held_of (Ok saved) = Ok (parts_of saved)
held_of (Err why) = Err why

-- what a file loads as
abbrev pub loaded_of : Result Saved LoadFault → Option SavedParts
loaded_of (Ok saved) = Some (parts_of saved)
loaded_of (Err why) = None
