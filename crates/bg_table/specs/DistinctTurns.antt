-- The legal turns, of those that lead to one position the greatest alone.
use Rattle.std.specs.Prelude.{◌≡◌, ◌↔◌, ◌⊎◌, List, AllPairs, Contains}
use Rattle.bg_board.specs.FromTo.{FromTo}
use Rattle.bg_board.specs.Position.{Position}
use Rattle.bg_board.specs.declared.players.Player.{Player}
use Rattle.bg_turns.specs.Turn.{IsLegalTurn, after_steps}
use Rattle.bg_turns.specs.TurnOrder.{IsGreater}
use Rattle.bg_turns.specs.declared.throws.Dice.{Dice}

-- a legal turn, and the greatest of those that lead where it leads
pub record StandsForAll (b : Position) (player : Player) (dice : Dice) (steps : List FromTo) : Type 0 where
  pub legal : IsLegalTurn b player dice steps
  pub greatest : (other : List FromTo) → IsLegalTurn b player dice other
      → after_steps b player other ≡ after_steps b player steps → (other ≡ steps) ⊎ IsGreater steps other

-- exactly these turns, each once, the greatest first
pub record AreDistinctTurns (b : Position) (player : Player) (dice : Dice) (turns : List (List FromTo)) : Type 0 where
  pub exactly : (steps : List FromTo) → Contains turns steps ↔ StandsForAll b player dice steps
  pub greatest_first : AllPairs IsGreater turns
