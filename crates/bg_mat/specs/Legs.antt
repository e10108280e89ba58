-- What the words of a movement tell.
use Rattle.std.specs.Prelude.{◌≡◌, ◌≢◌, ◌⊎◌, ℕ, zero, suc, ◌+◌, ◌<◌, ◌≤◌, Bool, true, false, List, [], ◌∷◌, ◌++◌, codes}
use Rattle.std.specs.Prelude.{◌==◌, length}
use Rattle.std.specs.List.{All}
use Rattle.bg_mat.specs.Rows.Numbers.{IsNumber}
use Rattle.bg_mat.specs.Rows.Words.{SameLetters}
use Rattle.bg_mat.specs.declared.movements.legs.Leg.{Leg}
use Rattle.bg_mat.specs.declared.movements.legs.LegFault.{LegFault}
use Rattle.bg_mat.specs.declared.movements.legs.LegFault.TheVariants as leg_fault

-- the word names the point, which is 25 for the bar and 0 for off. Capital letters are as good as
-- others
abbrev pub IsPointText : List ℕ → ℕ → Type 0
IsPointText word point =
    ((point ≡ 25) × SameLetters word (codes "bar"))
    ⊎ (((point ≡ 0) × SameLetters word (codes "off")) ⊎ IsNumber word point)

-- the mark of a hit stands behind the point
abbrev pub mark : Bool → List ℕ
mark true = codes "*"
mark false = []

-- from a point on, the word tells the leg: the lower point where it ends, and whether it hits there
pub record TellsLeg (from : ℕ) (word : List ℕ) (leg : Leg) : Type 0 where
  pub point : List ℕ
  pub starts : leg.step.from ≡ from
  pub on_board : from ≤ 25
  pub lower : leg.step.to < from
  pub ends : IsPointText point leg.step.to
  pub marked : word ≡ point ++ mark leg.hits

-- from a point on, the text tells the legs, each behind a slash and from where the one before it
-- ends
abbrev pub TellsLegs : ℕ → List ℕ → List Leg → Type 0
TellsLegs from text [] = text ≡ []
TellsLegs from text (leg ∷ legs) =
    (word rest : List ℕ) × (text ≡ codes "/" ++ (word ++ rest)) × TellsLeg from word leg
    × TellsLegs leg.step.to rest legs

-- the text tells the way of a checker: the point where it begins, and its legs
abbrev pub TellsPath : List ℕ → List Leg → Type 0
TellsPath text legs =
    (from : ℕ) × (start rest : List ℕ) × (text ≡ start ++ rest) × IsPointText start from × TellsLegs from rest legs
    × (legs ≢ [])

-- a list so many times, one behind the other
abbrev pub repeated : {X : Type 0} → ℕ → List X → List X
repeated zero xs = []
repeated (suc n) xs = xs ++ repeated n xs

-- behind the path of a word stands in brackets how many checkers go it, 1 to 4
abbrev pub IsBracketed : List ℕ → List ℕ → ℕ → Type 0
IsBracketed word path count =
    (1 ≤ count) × (count ≤ 4) × (word ≡ path ++ codes "(" ++ (48 + count) ∷ codes ")")

-- so many checkers, 1 to 4, go the path of a word
abbrev pub IsCounted : List ℕ → List ℕ → ℕ → Type 0
IsCounted word path count = ((word ≡ path) × (count ≡ 1)) ⊎ IsBracketed word path count

-- the word tells the legs of all checkers that go its path
abbrev pub TellsWord : List ℕ → List Leg → Type 0
TellsWord word legs =
    (path : List ℕ) × (count : ℕ) × (once : List Leg) × IsCounted word path count × TellsPath path once
    × (legs ≡ repeated count once)

-- the words tell the legs, one behind the other
abbrev pub TellsMovement : List (List ℕ) → List Leg → Type 0
TellsMovement [] legs = legs ≡ []
TellsMovement (word ∷ words) legs =
    (first rest : List Leg) × TellsWord word first × TellsMovement words rest × (legs ≡ first ++ rest)

-- no slash is in the text
abbrev pub IsPart : List ℕ → Type 0
IsPart text = All (λ byte. (byte == 47) ≡ false) text

-- a slash begins the text, or it is empty
abbrev pub BeginsSlash : List ℕ → Type 0
BeginsSlash [] = Unit {0}
BeginsSlash (byte ∷ rest) = (byte == 47) ≡ true

-- no legs of which this holds can be added to others: there are none, or with them there are more
-- than four
abbrev pub RefusesLegs : (List Leg → Type 0) → List Leg → LegFault → Type 0
RefusesLegs Tells old leg_fault.NotAMovement = (more : List Leg) → Tells more → ⊥
RefusesLegs Tells old leg_fault.TooMany = (more : List Leg) × Tells more × (4 < length old + length more)

-- legs of which this holds are added to others
abbrev pub AddsLegs : (List Leg → Type 0) → List Leg → List Leg → Type 0
AddsLegs Tells old new = (more : List Leg) × Tells more × (new ≡ old ++ more)
