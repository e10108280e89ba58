-- Which turn a movement tells.
use Rattle.std.specs.Prelude.{◌≡◌, ◌⊎◌, ◌==◌, ◌&&◌, ◌||◌, ℕ, ◌+◌, ◌-◌, ◌≤◌, Bool, false, nat_lt, List, [], ◌∷◌, map}
use Rattle.std.specs.Prelude.{if◌then◌else◌}
use Rattle.bg_board.specs.FromTo.{FromTo}
use Rattle.bg_board.specs.Position.{Position, opponent, count}
use Rattle.bg_board.specs.declared.players.Player.{Player}
use Rattle.bg_turns.specs.Turn.{IsLegalTurn}
use Rattle.bg_turns.specs.TurnOrder.{IsGreater}
use Rattle.bg_turns.specs.declared.throws.Dice.{Dice}
use Rattle.bg_mat.specs.declared.movements.legs.Leg.{Leg}

-- the legs as steps
abbrev pub steps_of : List Leg → List FromTo
steps_of legs = map (λ leg. leg.step) legs

-- how many steps leave a point
abbrev pub leaving : ℕ → List FromTo → ℕ
leaving point [] = 0
leaving point (step ∷ steps) = (if step.from == point then 1 else 0) + leaving point steps

-- how many steps come to a point
abbrev pub coming : ℕ → List FromTo → ℕ
coming point [] = 0
coming point (step ∷ steps) = (if step.to == point then 1 else 0) + coming point steps

-- both have the same movement: as many more checkers leave each point, or come to it
abbrev pub SameMovement : List FromTo → List FromTo → Type 0
SameMovement written played =
    (point : ℕ) → point ≤ 25
    → leaving point written + coming point played ≡ leaving point played + coming point written

-- a hit is marked on the point
abbrev pub is_marked : ℕ → List Leg → Bool
is_marked point [] = false
is_marked point (leg ∷ legs) = (leg.hits && leg.step.to == point) || is_marked point legs

-- a step ends on the point
abbrev pub is_reached : ℕ → List FromTo → Bool
is_reached point [] = false
is_reached point (step ∷ steps) = step.to == point || is_reached point steps

-- a turn of these steps hits on the point: it is no bearing off, a single opposing checker stands
-- there, and a step ends there
abbrev pub is_hit : Position → Player → List FromTo → ℕ → Bool
is_hit board player steps point =
    nat_lt 0 point && (count board (opponent player) (25 - point) == 1 && is_reached point steps)

-- the marked points are those where the steps hit
abbrev pub HasHits : Position → Player → List Leg → List FromTo → Type 0
HasHits board player legs steps =
    (point : ℕ) → point ≤ 25 → is_marked point legs ≡ is_hit board player steps point

-- a legal turn of this movement, with these hits
pub record HasMovement (board : Position) (player : Player) (dice : Dice) (legs : List Leg) (turn : List FromTo)
    : Type 0 where
  pub legal : IsLegalTurn board player dice turn
  pub moved : SameMovement (steps_of legs) turn
  pub hits : HasHits board player legs turn

-- the legs as steps are a legal turn, with these hits
pub record IsAsWritten (board : Position) (player : Player) (dice : Dice) (legs : List Leg) : Type 0 where
  pub legal : IsLegalTurn board player dice (steps_of legs)
  pub hits : HasHits board player legs (steps_of legs)

-- the turn that a movement tells: of this movement and with these hits. It is the legs as steps
-- where these are such a turn, and else none of such turns is greater
pub record TellsTurn (board : Position) (player : Player) (dice : Dice) (legs : List Leg) (turn : List FromTo)
    : Type 0 where
  pub movement : HasMovement board player dice legs turn
  pub chosen : (turn ≡ steps_of legs)
      ⊎ ((IsAsWritten board player dice legs → ⊥)
      × ((other : List FromTo) → HasMovement board player dice legs other → (other ≡ turn) ⊎ IsGreater turn other))

-- both turns hit on the same points
abbrev pub HitAlike : Position → Player → List FromTo → List FromTo → Type 0
HitAlike board player one other =
    (point : ℕ) → point ≤ 25 → is_hit board player one point ≡ is_hit board player other point

-- a legal turn of this movement
pub record IsOfMovement (board : Position) (player : Player) (dice : Dice) (legs : List Leg) (turn : List FromTo)
    : Type 0 where
  pub legal : IsLegalTurn board player dice turn
  pub moved : SameMovement (steps_of legs) turn

-- no legal turn of this movement is greater
pub record IsGreatest (board : Position) (player : Player) (dice : Dice) (legs : List Leg) (turn : List FromTo)
    : Type 0 where
  pub movement : IsOfMovement board player dice legs turn
  pub greatest : (other : List FromTo) → IsOfMovement board player dice legs other
      → (other ≡ turn) ⊎ IsGreater turn other

-- the greatest turn of this movement, where all of them hit on the same points
pub record IsUnambiguous (board : Position) (player : Player) (dice : Dice) (legs : List Leg) (turn : List FromTo)
    : Type 0 where
  pub greatest : IsGreatest board player dice legs turn
  pub alike : (other : List FromTo) → IsOfMovement board player dice legs other → HitAlike board player turn other

-- the turn that a file tells by a movement: one with its hits. Where no legal turn has these it is
-- the greatest of this movement, if all turns of it hit on the same points
abbrev pub IsToldTurn : Position → Player → Dice → List Leg → List FromTo → Type 0
IsToldTurn board player dice legs turn =
    TellsTurn board player dice legs turn
    ⊎ (((other : List FromTo) → HasMovement board player dice legs other → ⊥)
    × IsUnambiguous board player dice legs turn)
