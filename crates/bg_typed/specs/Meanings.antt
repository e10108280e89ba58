-- Which turn is meant by what is typed.
use Rattle.std.specs.Prelude.{◌≡◌, ◌≢◌, ◌⊎◌, ℕ, ◌≤◌, Bool, true, false, List, [], length}
use Rattle.std.specs.List.{list_any}
use Rattle.bg_board.specs.FromTo.{FromTo}
use Rattle.bg_board.specs.Position.{Position}
use Rattle.bg_board.specs.declared.players.Player.{Player}
use Rattle.bg_turns.specs.Turn.{IsLegalTurn}
use Rattle.bg_turns.specs.declared.throws.Dice.{Dice}
use Rattle.bg_mat.specs.Turns.{IsUnambiguous, TellsTurn, steps_of}
use Rattle.bg_mat.specs.declared.movements.legs.Leg.{Leg}
use Rattle.bg_typed.specs.TypedWords.{TellsTyped}

-- a hit is marked
abbrev pub has_marks : List Leg → Bool
has_marks legs = list_any (λ leg. leg.hits) legs

-- the turn of legs that mark no hit: the legs as steps where these are a legal turn, and else the
-- unambiguous one
abbrev pub MeansUnmarked : Position → Player → Dice → List Leg → List FromTo → Type 0
MeansUnmarked board player dice legs turn =
    ((turn ≡ steps_of legs) × IsLegalTurn board player dice turn)
    ⊎ ((IsLegalTurn board player dice (steps_of legs) → ⊥) × IsUnambiguous board player dice legs turn)

-- no other turn is legal
pub record IsOnly (board : Position) (player : Player) (dice : Dice) (turn : List FromTo) : Type 0 where
  pub legal : IsLegalTurn board player dice turn
  pub only : (other : List FromTo) → IsLegalTurn board player dice other → other ≡ turn

-- the turn that legs mean: the only one where there are none. Where hits are marked it is the turn
-- that a match file tells by them, which has just these hits
abbrev pub MeansLegs : Position → Player → Dice → List Leg → List FromTo → Type 0
MeansLegs board player dice legs turn =
    ((legs ≡ []) × IsOnly board player dice turn)
    ⊎ (((legs ≢ []) × (has_marks legs ≡ true) × TellsTurn board player dice legs turn)
    ⊎ ((legs ≢ []) × (has_marks legs ≡ false) × MeansUnmarked board player dice legs turn))

-- what is typed means the turn
abbrev pub MeansTurn : Position → Player → Dice → List ℕ → List FromTo → Type 0
MeansTurn board player dice typed turn =
    (legs : List Leg) × TellsTyped typed legs × (length legs ≤ 4) × MeansLegs board player dice legs turn

-- what is typed tells these steps, whether they can be played or not: its legs as they are written
abbrev pub TellsSteps : List ℕ → List FromTo → Type 0
TellsSteps typed steps = (legs : List Leg) × TellsTyped typed legs × (length legs ≤ 4) × (steps ≡ steps_of legs)
