-- The text of the legal turns.
use Rattle.std.specs.Prelude.{◌≡◌, ◌↔◌, ℕ, List, map, Option, Some, None, AllPairs, Contains, if◌then◌else◌}
use Rattle.std.specs.Global.{Vec}
use Rattle.bg_board.specs.FromTo.{FromTo}
use Rattle.bg_board.specs.Position.{Position}
use Rattle.bg_board.specs.declared.players.Player.{Player}
use Rattle.bg_turns.specs.Turn.{IsLegalTurn}
use Rattle.bg_turns.specs.TurnOrder.{IsGreater}
use Rattle.bg_turns.specs.declared.throws.Dice.{Dice}
use Rattle.bg_match.specs.Actor.{passes}
use Rattle.bg_match.specs.State.{State}
use Rattle.bg_match.specs.declared.actions.Action.TheVariants.{Move}
use Rattle.bg_match.specs.declared.phases.Phase.{Phase}
use Rattle.bg_match.specs.declared.phases.Phase.TheVariants.{ToMove}
use Rattle.bg_text.specs.Boards.BoardText.{lines_text}
use Rattle.bg_text.specs.Entries.EntryText.{action_text}

abbrev pub mover_in : Phase → Option (Player × Dice)
mover_in (ToMove player dice) = Some (player, dice)
mover_in _ = None

-- the player to move, with his dice: a turn that is to be passed is the referee's
abbrev pub mover_of : State → Option (Player × Dice)
mover_of s = if passes s then None else mover_in s.phase

-- these are the legal turns, the greatest first, so that each stands there once
pub record AreLegalTurns (board : Position) (player : Player) (dice : Dice) (turns : List (List FromTo)) : Type 0 where
  pub exactly : (steps : List FromTo) → Contains turns steps ↔ IsLegalTurn board player dice steps
  pub greatest_first : AllPairs IsGreater turns

-- a line for each turn, as it is claimed
abbrev pub turns_text : List (List FromTo) → List ℕ
turns_text turns = lines_text (map (λ steps. action_text (Move steps)) turns)

-- the text has the legal turns of a player with these dice
abbrev pub IsTurnsText : Position → Player × Dice → List ℕ → Type 0
IsTurnsText board mover text =
    (turns : List (List FromTo)) × AreLegalTurns board mover.0 mover.1 turns × (text ≡ turns_text turns)

-- what is found of a state: the text of the legal turns of the player to move, or nothing where
-- none is
abbrev pub FindsTurns : State → Option (Vec ℕ) → Type 0
FindsTurns s None = mover_of s ≡ None
FindsTurns s (Some text) =
    (mover : Player × Dice) × (mover_of s ≡ Some mover) × IsTurnsText s.board mover text.items
