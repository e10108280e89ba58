-- What the words of a move say: numerals, ends of steps, pairs.
use Rattle.std.specs.Prelude.{◌≡◌, ◌⊎◌, ℕ, ◌<◌, ◌≤◌, List, [], ◌∷◌, map, length, Option, Some, None, Result, Ok, Err, codes}
use Rattle.std.specs.List.{AllByRecursion}
use Rattle.std.specs.Fmt.{decimal}
use Rattle.bg_board.specs.FromTo.{FromTo}
use Rattle.bg_board.specs.declared.dice.Die.{Die}
use Rattle.bg_turns.specs.Turn.{IsDownward, IsTurn}
use Rattle.bg_text.specs.Entries.EntryText.{source_text, target_text, step_text, dice_words}
use Rattle.bg_text.specs.Entries.EntryShape.{IsNumeral, IsPairShape}
use Rattle.bg_text.specs.declared.faults.TextFault.{TextFault}
use Rattle.bg_text.specs.declared.faults.TextFault.TheVariants.{NotALine, BadNumber, TooManySteps}

-- what a word says, by the shape of such words and the text of each value: the value, or why there
-- is none
module _ {A : Type 0} (HasShape : List ℕ → Type 0) (IsRight : A → Type 0) (text : A → List ℕ) where
  abbrev pub Says : List ℕ → Result A TextFault → Type 0
  Says word (Ok value) = IsRight value × (word ≡ text value)
  Says word (Err NotALine) = HasShape word → ⊥
  Says word (Err BadNumber) = HasShape word × ((value : A) → IsRight value → word ≡ text value → ⊥)
  Says word (Err TooManySteps) = ⊥

-- what two words say together: both values, or the graver of the faults. Another shape is graver
-- than a wrong number
abbrev pub both_of : Result ℕ TextFault → Result ℕ TextFault → Result (ℕ × ℕ) TextFault
both_of (Err NotALine) second = Err NotALine
both_of first (Err NotALine) = Err NotALine
both_of (Err fault) second = Err fault
both_of (Ok x) (Err fault) = Err fault
both_of (Ok x) (Ok y) = Ok (x, y)

-- no word says 0
abbrev pub IsNumber : ℕ → Type 0
IsNumber n = (0 < n) × (n < 100)

abbrev pub IsNumberOf : List ℕ → Result ℕ TextFault → Type 0
IsNumberOf word result = Says IsNumeral IsNumber decimal word result

abbrev pub IsPoint : ℕ → Type 0
IsPoint n = (0 < n) × (n ≤ 24)

abbrev pub IsPointOf : List ℕ → Result ℕ TextFault → Type 0
IsPointOf word result = Says IsNumeral IsPoint decimal word result

-- the start of a step
abbrev pub IsSourceShape : List ℕ → Type 0
IsSourceShape word = (word ≡ codes "bar") ⊎ IsNumeral word

abbrev pub IsSource : ℕ → Type 0
IsSource n = (0 < n) × (n ≤ 25)

abbrev pub IsSourceOf : List ℕ → Result ℕ TextFault → Type 0
IsSourceOf word result = Says IsSourceShape IsSource source_text word result

-- the end of a step
abbrev pub IsTargetShape : List ℕ → Type 0
IsTargetShape word = (word ≡ codes "off") ⊎ IsNumeral word

abbrev pub IsTarget : ℕ → Type 0
IsTarget n = n ≤ 24

abbrev pub IsTargetOf : List ℕ → Result ℕ TextFault → Type 0
IsTargetOf word result = Says IsTargetShape IsTarget target_text word result

abbrev pub IsPairOf : List ℕ → Result FromTo TextFault → Type 0
IsPairOf word result = Says IsPairShape IsDownward step_text word result

-- what is wrong with the pairs of a move
abbrev pub IsPairsFault : TextFault → List (List ℕ) → Type 0
IsPairsFault NotALine pairs = AllByRecursion IsPairShape pairs → ⊥
IsPairsFault BadNumber pairs =
    AllByRecursion IsPairShape pairs
    × ((steps : List FromTo) → AllByRecursion IsDownward steps → pairs ≡ map step_text steps → ⊥)
IsPairsFault TooManySteps pairs =
    (steps : List FromTo) × (pairs ≡ map step_text steps) × AllByRecursion IsDownward steps × (4 < length steps)

-- the turn of some pairs, or what is wrong with them
abbrev pub IsTurnOf : List (List ℕ) → Result (List FromTo) TextFault → Type 0
IsTurnOf pairs (Ok steps) = IsTurn steps × (pairs ≡ map step_text steps)
IsTurnOf pairs (Err fault) = IsPairsFault fault pairs

-- the turn of some pairs, unless there is something wrong with them
abbrev pub turn_or : Option TextFault → List FromTo → Result (List FromTo) TextFault
turn_or None steps = Ok steps
turn_or (Some fault) steps = Err fault

-- two numerals
abbrev pub AreNumerals : List (List ℕ) → Type 0
AreNumerals words = (first second : List ℕ) × (words ≡ first ∷ second ∷ []) × IsNumeral first × IsNumeral second

-- what is wrong with the words of two dice
abbrev pub IsDiceFault : TextFault → List (List ℕ) → Type 0
IsDiceFault NotALine words = AreNumerals words → ⊥
IsDiceFault BadNumber words = AreNumerals words × ((x o : Die) → words ≡ dice_words x o → ⊥)
IsDiceFault TooManySteps words = ⊥
