-- The shapes of lines, and what is wrong with a line that is no entry's or action's text.
use Rattle.std.specs.Prelude.{◌≡◌, ◌⊎◌, ℕ, ◌<◌, ◌≤◌, List, [], ◌∷◌, ◌++◌, length, Option, Some, Contains, IsTrue, codes}
use Rattle.std.specs.List.{AllByRecursion}
use Rattle.std.specs.Str.{all_ascii_digits}
use Rattle.bg_board.specs.FromTo.{FromTo}
use Rattle.bg_board.specs.declared.players.Player.{Player}
use Rattle.bg_turns.specs.Turn.{IsDownward}
use Rattle.bg_match.specs.declared.actions.Action.{Action}
use Rattle.bg_match.specs.declared.actions.Action.TheVariants as action
use Rattle.bg_match.specs.declared.entries.Entry.{Entry}
use Rattle.bg_match.specs.declared.entries.Entry.TheVariants as entry
use Rattle.bg_text.specs.Entries.Words.{words_of}
use Rattle.bg_text.specs.Entries.EntryText.{letter, entry_text, action_text, IsSeatOf}
use Rattle.bg_text.specs.declared.faults.TextFault.{TextFault}
use Rattle.bg_text.specs.declared.faults.TextFault.TheVariants.{NotALine, BadNumber, TooManySteps}

-- one or two digits
pub record IsNumeral (word : List ℕ) : Type 0 where
  pub digits : IsTrue (all_ascii_digits word)
  pub some : 1 ≤ length word
  pub two : length word ≤ 2

-- a pair: the bar or a numeral, a hyphen, off or a numeral
pub record IsPairShape (word : List ℕ) : Type 0 where
  pub source : List ℕ
  pub target : List ℕ
  pub hyphened : word ≡ source ++ codes "-" ++ target
  pub starts : (source ≡ codes "bar") ⊎ IsNumeral source
  pub ends : (target ≡ codes "off") ⊎ IsNumeral target

-- a word and two numerals
pub record IsDiceShape (word : List ℕ) (words : List (List ℕ)) : Type 0 where
  pub first : List ℕ
  pub second : List ℕ
  pub spelled : words ≡ word ∷ first ∷ second ∷ []
  pub first_numeral : IsNumeral first
  pub second_numeral : IsNumeral second

-- any number of pairs
pub record IsMoveShape (words : List (List ℕ)) : Type 0 where
  pub pairs : List (List ℕ)
  pub spelled : words ≡ codes "move" ∷ pairs
  pub each : AllByRecursion IsPairShape pairs

-- what is said without a number
abbrev pub plain_words : List (List (List ℕ))
plain_words =
    (codes "double" ∷ [])
    ∷ (codes "take" ∷ [])
    ∷ (codes "drop" ∷ [])
    ∷ (codes "resign" ∷ codes "normal" ∷ [])
    ∷ (codes "resign" ∷ codes "gammon" ∷ [])
    ∷ (codes "resign" ∷ codes "backgammon" ∷ [])
    ∷ (codes "accept" ∷ [])
    ∷ (codes "reject" ∷ [])
    ∷ []

-- what may stand after a player's letter
abbrev pub IsSeatShape : List (List ℕ) → Type 0
IsSeatShape words = IsDiceShape (codes "roll") words ⊎ (IsMoveShape words ⊎ Contains plain_words words)

-- what the referee's own lines are: an opening, or a pass
abbrev pub IsOwnShape : List (List ℕ) → Type 0
IsOwnShape words = IsDiceShape (codes "open") words ⊎ (words ≡ codes "pass" ∷ [])

abbrev pub IsEntryShape : List (List ℕ) → Type 0
IsEntryShape words =
    IsOwnShape words
    ⊎ ((player : Player) × (rest : List (List ℕ)) × (words ≡ letter player ∷ rest) × IsSeatShape rest)

abbrev pub IsActionShape : List (List ℕ) → Type 0
IsActionShape words = (words ≡ codes "roll" ∷ []) ⊎ (IsMoveShape words ⊎ Contains plain_words words)

-- each step of the entry, of which there may be more than four, leads down
abbrev pub HasDownwardSteps : Entry → Type 0
HasDownwardSteps (entry.Moved steps) = AllByRecursion IsDownward steps
HasDownwardSteps _ = Unit {0}

abbrev pub MovesDownward : Action → Type 0
MovesDownward (action.Move steps) = AllByRecursion IsDownward steps
MovesDownward _ = Unit {0}

-- the fault names the first of three tests that the line fails: its shape, its numbers, the count
-- of its steps
abbrev pub IsEntryTextFault : TextFault → List ℕ → Type 0
IsEntryTextFault NotALine line = IsEntryShape (words_of line) → ⊥
IsEntryTextFault BadNumber line =
    IsEntryShape (words_of line)
    × ((seat : Option Player) (e : Entry) → IsSeatOf seat e → HasDownwardSteps e → line ≡ entry_text seat e → ⊥)
IsEntryTextFault TooManySteps line =
    (player : Player) × (steps : List FromTo) × (line ≡ entry_text (Some player) (entry.Moved steps))
    × AllByRecursion IsDownward steps × (4 < length steps)

abbrev pub IsActionTextFault : TextFault → List ℕ → Type 0
IsActionTextFault NotALine line = IsActionShape (words_of line) → ⊥
IsActionTextFault BadNumber line =
    IsActionShape (words_of line) × ((a : Action) → MovesDownward a → line ≡ action_text a → ⊥)
IsActionTextFault TooManySteps line =
    (steps : List FromTo) × (line ≡ action_text (action.Move steps))
    × AllByRecursion IsDownward steps × (4 < length steps)
