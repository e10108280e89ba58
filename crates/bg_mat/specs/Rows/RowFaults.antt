-- Why a row is refused for its shape.
use Rattle.std.specs.Prelude.{◌≡◌, ◌⊎◌, ℕ, ◌+◌, ◌<◌, Option, List, [], codes, length}
use Rattle.bg_turns.specs.declared.throws.Dice.{Dice}
use Rattle.bg_mat.specs.Rows.Cells.{BeginsDice, SkipsNumber, TellsCell, TellsCells, TellsLegsAt, TellsRow}
use Rattle.bg_mat.specs.Rows.Cells.{left_column, most_legs}
use Rattle.bg_mat.specs.Rows.Words.{IsBlankText, IsEither, IsFirstWord, leading_blanks}
use Rattle.bg_mat.specs.declared.faults.MatFault.{MatFault}
use Rattle.bg_mat.specs.declared.faults.MatFault.TheVariants as why
use Rattle.bg_mat.specs.declared.movements.legs.Leg.{Leg}
use Rattle.bg_mat.specs.declared.rows.Row.{Row}
use Rattle.bg_mat.specs.declared.rows.cells.Cell.{Cell}

-- the double of a double, which the match rules do not have
abbrev pub IsBeaverWord : List ℕ → Type 0
IsBeaverWord word =
    IsEither word (codes "Beaver") (codes "Beavers") ⊎ IsEither word (codes "Raccoon") (codes "Raccoons")

-- a text begins with such a word
abbrev pub IsBeaver : List ℕ → Type 0
IsBeaver text = (word rest : List ℕ) × IsFirstWord text word rest × IsBeaverWord word

-- a text begins with legs, and with these others there are more than a movement has
abbrev pub HasTooMany : List ℕ → List Leg → Type 0
HasTooMany text others =
    (rest : List ℕ) × (legs : List Leg) × TellsLegsAt text rest legs × (most_legs < length others + length legs)

-- a text begins with dice, and behind them are more legs than a movement has
abbrev pub IsTooLong : List ℕ → Type 0
IsTooLong text =
    (after : List ℕ) × (dice : Dice) × BeginsDice text dice after × HasTooMany after []

-- a cell is to begin where the text does: with the cells of a row, or behind one in the left column
abbrev pub IsCellPlace : List ℕ → List ℕ → Type 0
IsCellPlace cells text =
    (text ≡ cells) ⊎ ((leading_blanks cells < left_column) × ((cell : Cell) × TellsCell cells cell text))

-- a cell of the row is to begin where the text does
abbrev pub IsRowPlace : List ℕ → List ℕ → Type 0
IsRowPlace line text = (cells : List ℕ) × SkipsNumber line cells × IsCellPlace cells text

-- which of the faults of shape it is, where cells are to begin at these places
abbrev pub IsPlaceFault : (List ℕ → Type 0) → MatFault → Type 0
IsPlaceFault Place why.NotALine = (text : List ℕ) → Place text → (IsBeaver text → ⊥) × (IsTooLong text → ⊥)
IsPlaceFault Place why.Beaver = (text : List ℕ) × Place text × IsBeaver text
IsPlaceFault Place why.TooManySteps = (text : List ℕ) × Place text × IsTooLong text
IsPlaceFault Place _ = ⊥

-- no cell begins the text, for this fault
abbrev pub IsCellFault : List ℕ → MatFault → Type 0
IsCellFault text fault =
    ((cell : Cell) (rest : List ℕ) → TellsCell text cell rest → ⊥) × IsPlaceFault (λ place. place ≡ text) fault

-- the text is no cell, for this fault
abbrev pub IsLastFault : List ℕ → MatFault → Type 0
IsLastFault text fault =
    ((cell : Cell) (rest : List ℕ) → TellsCell text cell rest → IsBlankText rest → ⊥)
    × IsPlaceFault (λ place. place ≡ text) fault

-- the text is no cells of a row, for this fault
abbrev pub AreCellsFault : List ℕ → MatFault → Type 0
AreCellsFault text fault =
    ((left right : Option Cell) → TellsCells text left right → ⊥) × IsPlaceFault (IsCellPlace text) fault

-- the line is no row, for this fault: a cell begins with a beaver, or has too many legs, or neither
-- is so
abbrev pub IsRowFault : List ℕ → MatFault → Type 0
IsRowFault line fault = ((row : Row) → TellsRow line row → ⊥) × IsPlaceFault (IsRowPlace line) fault

-- a line that is no row is none for one fault
abbrev pub RowFaultsDiffer : Type 0
RowFaultsDiffer = (line : List ℕ) (fault other : MatFault) → IsRowFault line fault → IsRowFault line other → fault ≡ other
