-- The words of a typed turn, and the legs that they tell.
use Rattle.std.specs.Prelude.{◌≡◌, ◌⊎◌, ℕ, List, codes}
use Rattle.bg_mat.specs.Legs.{TellsMovement}
use Rattle.bg_mat.specs.Rows.Words.{BeginsWith, IsBlankText, IsFirstWord}
use Rattle.bg_mat.specs.declared.movements.legs.Leg.{Leg}
use Rattle.bg_typed.specs.Spelling.{spelled}

-- all words of the text tell the legs
abbrev pub TellsWords : List ℕ → List Leg → Type 0
TellsWords text legs =
    (words : List (List ℕ)) × (rest : List ℕ) × BeginsWith text words rest × IsBlankText rest
    × TellsMovement words legs

-- the word says that a movement follows
abbrev pub IsMoveWord : List ℕ → Type 0
IsMoveWord word = (word ≡ codes "m") ⊎ (word ≡ codes "move")

-- a text begins with such a word
abbrev pub HasMoveWord : List ℕ → List ℕ → Type 0
HasMoveWord text rest = (word : List ℕ) × IsFirstWord text word rest × IsMoveWord word

-- a text may begin with such a word
abbrev pub SkipsMove : List ℕ → List ℕ → Type 0
SkipsMove text rest =
    ((text ≡ rest) × ((behind : List ℕ) → HasMoveWord text behind → ⊥)) ⊎ HasMoveWord text rest

-- what is typed tells the legs, by all its words but `m` or `move` at its beginning. It tells none
-- where there is no other word
abbrev pub TellsTyped : List ℕ → List Leg → Type 0
TellsTyped typed legs = (movement : List ℕ) × SkipsMove (spelled typed) movement × TellsWords movement legs
