-- What a cell tells, and a row of two cells.
use Rattle.std.specs.Prelude.{◌≡◌, ◌⊎◌, ◌==◌, ◌||◌, ℕ, ◌+◌, ◌<◌, ◌≤◌, Bool, true, false, Option, Some, None, List, [], ◌∷◌, ◌++◌}
use Rattle.std.specs.Prelude.{codes, length}
use Rattle.std.specs.List.{All}
use Rattle.bg_turns.specs.Dice.{first_pips, second_pips}
use Rattle.bg_turns.specs.declared.throws.Dice.{Dice}
use Rattle.bg_mat.specs.Rows.Words.{IsBlankText, IsEither, IsFirstWord, BeginsWith, Says, SaysAll, SaysEither, is_blank}
use Rattle.bg_mat.specs.Rows.Words.{leading_blanks}
use Rattle.bg_mat.specs.Rows.Numbers.{IsNumber}
use Rattle.bg_mat.specs.Rows.Headings.{IsPoints}
use Rattle.bg_mat.specs.Legs.{TellsMovement, TellsWord, AddsLegs}
use Rattle.bg_mat.specs.declared.movements.legs.Leg.{Leg}
use Rattle.bg_mat.specs.declared.rows.cells.Win.{Win}
use Rattle.bg_mat.specs.declared.rows.cells.Cell.{Cell}
use Rattle.bg_mat.specs.declared.rows.cells.Cell.TheVariants.{Turn, CannotMove, Unknown, Doubles, Takes, Drops, Wins}
use Rattle.bg_mat.specs.declared.rows.Row.{Row}

-- two digits and a colon: the dice, in the order in which they are named
abbrev pub AreDice : List ℕ → Dice → Type 0
AreDice word dice = word ≡ (48 + first_pips dice) ∷ (48 + second_pips dice) ∷ codes ":"

-- behind any blanks two digits and a colon begin a text: the dice, in the order in which they are
-- named. Then comes the rest, at once or behind blanks
pub record BeginsDice (text : List ℕ) (dice : Dice) (rest : List ℕ) : Type 0 where
  pub blanks : List ℕ
  pub blank : IsBlankText blanks
  pub spelled : text ≡ blanks ++ ((48 + first_pips dice) ∷ (48 + second_pips dice) ∷ 58 ∷ rest)

-- a text begins with dice
abbrev pub HasDice : List ℕ → Type 0
HasDice text = (dice : Dice) × (rest : List ℕ) × BeginsDice text dice rest

-- a text begins with the words of a movement
abbrev pub TellsLegsAt : List ℕ → List ℕ → List Leg → Type 0
TellsLegsAt text rest legs = (words : List (List ℕ)) × BeginsWith text words rest × TellsMovement words legs

-- the legs of a movement that a text begins with are added to others
abbrev pub AddsMovement : List ℕ → List ℕ → List Leg → List Leg → Type 0
AddsMovement text rest old new = AddsLegs (TellsLegsAt text rest) old new

-- the movement ends here: no word of one begins the text
abbrev pub EndsMovement : List ℕ → Type 0
EndsMovement text = (word rest : List ℕ) (legs : List Leg) → IsFirstWord text word rest → TellsWord word legs → ⊥

-- in place of a movement: there is none
abbrev pub SaysCannotMove : List ℕ → List ℕ → Type 0
SaysCannotMove text rest = SaysAll text (codes "Cannot" ∷ codes "Move" ∷ []) rest

-- in place of a movement: it is not known. A word of question marks says so
abbrev pub SaysUnknown : List ℕ → List ℕ → Type 0
SaysUnknown text rest = (word : List ℕ) × IsFirstWord text word rest × All (λ byte. (byte == 63) ≡ true) word

-- a movement may begin here: neither of these two does
abbrev pub MayMove : List ℕ → Type 0
MayMove text = (rest : List ℕ) → (SaysCannotMove text rest → ⊥) × (SaysUnknown text rest → ⊥)

-- a text begins with points
abbrev pub TellsPoints : List ℕ → ℕ → List ℕ → Type 0
TellsPoints text points rest =
    (number word : List ℕ) × BeginsWith text (number ∷ word ∷ []) rest × IsNumber number points × IsPoints word

-- the end of a win that ends the match, where the file says so
abbrev pub ending : Bool → List (List ℕ)
ending true = codes "and" ∷ codes "the" ∷ codes "match" ∷ []
ending false = []

-- what ends the match goes with the win
abbrev pub EndsWin : List ℕ → Type 0
EndsWin text = (rest : List ℕ) → Says text (codes "and") rest → ⊥

abbrev pub TellsWin : List ℕ → Win → List ℕ → Type 0
TellsWin text win rest =
    (after behind : List ℕ) × SaysEither text (codes "Win") (codes "Wins") after
    × TellsPoints after win.points behind × SaysAll behind (ending win.ends_match) rest
    × (win.ends_match ≡ false → EndsWin rest)

-- an equals sign ends the name of what a player does, as a blank does
abbrev pub ends_name : ℕ → Bool
ends_name byte = is_blank byte || byte == 61

-- no such byte is in the text
abbrev pub IsNameText : List ℕ → Type 0
IsNameText text = All (λ byte. ends_name byte ≡ false) text

-- such a byte begins the text, or it is empty
abbrev pub EndsName : List ℕ → Type 0
EndsName [] = Unit {0}
EndsName (byte ∷ rest) = ends_name byte ≡ true

-- behind any blanks a text begins with the word `Double` or `Doubles`, and then comes the rest
pub record SaysDouble (text rest : List ℕ) : Type 0 where
  pub blanks : List ℕ
  pub word : List ℕ
  pub blank : IsBlankText blanks
  pub is : IsEither word (codes "Double") (codes "Doubles")
  pub ends : EndsName rest
  pub spelled : text ≡ blanks ++ (word ++ rest)

-- behind any blanks an arrow begins a text, and then comes the rest
abbrev pub BeginsArrow : List ℕ → List ℕ → Type 0
BeginsArrow text rest = (blanks : List ℕ) × IsBlankText blanks × (text ≡ blanks ++ (codes "=>" ++ rest))

-- a double, and what the cube will show where the file says so
abbrev pub TellsDouble : List ℕ → Option ℕ → List ℕ → Type 0
TellsDouble text None rest = SaysDouble text rest × ((behind : List ℕ) → BeginsArrow rest behind → ⊥)
TellsDouble text (Some shows) rest =
    (after behind number : List ℕ) × SaysDouble text after × BeginsArrow after behind
    × IsFirstWord behind number rest × IsNumber number shows

-- a movement has at most so many legs
abbrev pub most_legs : ℕ
most_legs = 4

-- a text begins with a cell, and then comes the rest. All words of a movement that stand behind the
-- dice are of it
abbrev pub TellsCell : List ℕ → Cell → List ℕ → Type 0
TellsCell text (Turn dice legs) rest =
    (after : List ℕ) × BeginsDice text dice after × MayMove after × TellsLegsAt after rest legs.items
    × (length legs.items ≤ most_legs) × EndsMovement rest
TellsCell text (CannotMove dice) rest = (after : List ℕ) × BeginsDice text dice after × SaysCannotMove after rest
TellsCell text (Unknown dice) rest = (after : List ℕ) × BeginsDice text dice after × SaysUnknown after rest
TellsCell text (Doubles shows) rest = TellsDouble text shows rest
TellsCell text Takes rest = SaysEither text (codes "Take") (codes "Takes") rest
TellsCell text Drops rest = SaysEither text (codes "Drop") (codes "Drops") rest
TellsCell text (Wins win) rest = TellsWin text win rest

-- behind any blanks the number of a row and a bracket begin a line, and then comes the rest, at
-- once or behind blanks
pub record HasRowNumber (line rest : List ℕ) : Type 0 where
  pub blanks : List ℕ
  pub digits : List ℕ
  pub n : ℕ
  pub blank : IsBlankText blanks
  pub number : IsNumber digits n
  pub spelled : line ≡ blanks ++ (digits ++ (codes ")" ++ rest))

-- a row may begin with its number and a bracket
abbrev pub SkipsNumber : List ℕ → List ℕ → Type 0
SkipsNumber line rest =
    ((line ≡ rest) × ((behind : List ℕ) → HasRowNumber line behind → ⊥)) ⊎ HasRowNumber line rest

-- so many blanks before the first cell of a row, or more, stand for an empty left column
abbrev pub left_column : ℕ
left_column = 16

-- the cells of a row: one in the left column, one in the right, or both, or none behind the number
-- of the row
abbrev pub TellsCells : List ℕ → Option Cell → Option Cell → Type 0
TellsCells text None None = IsBlankText text
TellsCells text (Some x) None =
    (leading_blanks text < left_column) × (rest : List ℕ) × TellsCell text x rest × IsBlankText rest
TellsCells text None (Some o) =
    (left_column ≤ leading_blanks text) × (rest : List ℕ) × TellsCell text o rest × IsBlankText rest
TellsCells text (Some x) (Some o) =
    (leading_blanks text < left_column) × (middle rest : List ℕ) × TellsCell text x middle × TellsCell middle o rest
    × IsBlankText rest

abbrev pub TellsRow : List ℕ → Row → Type 0
TellsRow line row = (cells : List ℕ) × SkipsNumber line cells × TellsCells cells row.left row.right
