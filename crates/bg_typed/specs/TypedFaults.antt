-- Why a typed turn is refused.
use Rattle.std.specs.Prelude.{◌≡◌, ◌≢◌, ◌⊎◌, ℕ, ◌<◌, ◌≤◌, true, false, List, [], length}
use Rattle.bg_board.specs.FromTo.{FromTo}
use Rattle.bg_board.specs.Position.{Position}
use Rattle.bg_board.specs.declared.players.Player.{Player}
use Rattle.bg_turns.specs.Turn.{IsLegalTurn}
use Rattle.bg_turns.specs.TurnOrder.{IsGreater}
use Rattle.bg_turns.specs.declared.throws.Dice.{Dice}
use Rattle.bg_mat.specs.Turns.{HasMovement, HitAlike, IsGreatest, IsOfMovement, steps_of}
use Rattle.bg_mat.specs.declared.movements.legs.Leg.{Leg}
use Rattle.bg_typed.specs.Meanings.{IsOnly, has_marks}
use Rattle.bg_typed.specs.TypedWords.{TellsTyped}
use Rattle.bg_typed.specs.declared.faults.TypedFault.{TypedFault}
use Rattle.bg_typed.specs.declared.faults.TypedFault.TheVariants as typed_fault

-- turns of one movement hit on different points: the greatest of them, and the greatest of those
-- that hit otherwise
pub record AreTwo (board : Position) (player : Player) (dice : Dice) (legs : List Leg) (one other : List FromTo)
    : Type 0 where
  pub first : IsGreatest board player dice legs one
  pub second : IsOfMovement board player dice legs other
  pub otherwise : HitAlike board player one other → ⊥
  pub greatest : (third : List FromTo) → IsOfMovement board player dice legs third
      → (HitAlike board player one third → ⊥) → (third ≡ other) ⊎ IsGreater other third

-- the legs mean no turn
abbrev pub IsMeaningFault : Position → Player → Dice → List Leg → TypedFault → Type 0
IsMeaningFault board player dice legs typed_fault.NoSuchTurn =
    (legs ≢ []) × ((turn : List FromTo) → IsOfMovement board player dice legs turn → ⊥)
IsMeaningFault board player dice legs typed_fault.WrongHits =
    (has_marks legs ≡ true) × ((turn : List FromTo) × IsOfMovement board player dice legs turn)
    × ((turn : List FromTo) → HasMovement board player dice legs turn → ⊥)
IsMeaningFault board player dice legs (typed_fault.Ambiguous one other) =
    (legs ≢ []) × (has_marks legs ≡ false) × (IsLegalTurn board player dice (steps_of legs) → ⊥)
    × AreTwo board player dice legs one other
IsMeaningFault board player dice legs typed_fault.SeveralTurns =
    (legs ≡ []) × ((turn : List FromTo) → IsOnly board player dice turn → ⊥)
IsMeaningFault board player dice legs typed_fault.Memory = Unit {0}
IsMeaningFault board player dice legs _ = ⊥

-- what is typed is refused: it tells no legs, or more than four, or its legs mean no turn
abbrev pub IsTypedFault : Position → Player → Dice → List ℕ → TypedFault → Type 0
IsTypedFault board player dice typed typed_fault.NotAMovement = (legs : List Leg) → TellsTyped typed legs → ⊥
IsTypedFault board player dice typed typed_fault.TooManySteps =
    (legs : List Leg) × TellsTyped typed legs × (4 < length legs)
IsTypedFault board player dice typed typed_fault.Memory = Unit {0}
IsTypedFault board player dice typed fault =
    (legs : List Leg) × TellsTyped typed legs × (length legs ≤ 4) × IsMeaningFault board player dice legs fault

-- what is typed tells no steps: it tells no legs, or more than four
abbrev pub IsStepsFault : List ℕ → TypedFault → Type 0
IsStepsFault typed typed_fault.NotAMovement = (legs : List Leg) → TellsTyped typed legs → ⊥
IsStepsFault typed typed_fault.TooManySteps = (legs : List Leg) × TellsTyped typed legs × (4 < length legs)
IsStepsFault typed typed_fault.Memory = Unit {0}
IsStepsFault typed _ = ⊥
