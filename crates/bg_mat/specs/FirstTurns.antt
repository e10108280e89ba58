-- The first turn of a list of which something holds.
use Rattle.std.specs.Prelude.{◌≡◌, ℕ, ◌<◌, List, length, slice_index_or}
use Rattle.bg_board.specs.FromTo.{FromTo}
use Rattle.bg_board.specs.Position.{Position}
use Rattle.bg_board.specs.declared.players.Player.{Player}
use Rattle.bg_mat.specs.Turns.{HitAlike, SameMovement}

-- it holds of none of the turns
abbrev pub IsNone : (List FromTo → Type 0) → List (List FromTo) → Type 0
IsNone Holds turns = (k : ℕ) (d : List FromTo) → k < length turns → Holds (slice_index_or turns k d) → ⊥

-- it holds of the turn, and of none before it
pub record IsFirst (Holds : List FromTo → Type 0) (turns : List (List FromTo)) (turn : List FromTo) : Type 0 where
  pub place : ℕ
  pub within : place < length turns
  pub here : (d : List FromTo) → slice_index_or turns place d ≡ turn
  pub holds : Holds turn
  pub before : (k : ℕ) (d : List FromTo) → k < place → Holds (slice_index_or turns k d) → ⊥

-- the turn has this movement, and hits otherwise than the steps
abbrev pub HitsOtherwise : Position → Player → List FromTo → List FromTo → List FromTo → Type 0
HitsOtherwise board player written steps turn =
    SameMovement written turn × (HitAlike board player steps turn → ⊥)
