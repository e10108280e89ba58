-- The steps of a legal turn are in their ranges.
use Rattle.std.proofs.Common.{ℕ, ◌≤◌, Bool, true, false, cond, eqb, List, [], ◌∷◌, length, remove, replicate, arith}
use Rattle.std.proofs.lemmas.List.Edits.{length-remove}
use Rattle.std.specs.List.{AllByRecursion}
use Rattle.bg_board.specs.Position.{Position}
use Rattle.bg_board.specs.FromTo.{FromTo}
use Rattle.bg_board.specs.Step.{after_step}
use Rattle.bg_board.specs.declared.players.Player.{Player}
use Rattle.bg_turns.specs.declared.throws.Dice.{Dice}
use Rattle.bg_turns.specs.Dice.{dice_list, first_pips, second_pips}
use Rattle.bg_turns.specs.Turn.{IsPlayable, IsLegalTurn, IsTurn, IsDownward}

playable_downward : (b : Position) (p : Player) (dice : List ℕ) (steps : List FromTo) → IsPlayable b p dice steps → AllByRecursion IsDownward steps
playable_downward b p dice [] h = tt
playable_downward b p dice (step ∷ rest) h =
    (record { starts = h.2.starts; lower = h.2.downward }, playable_downward (after_step b p step) p (remove dice h.0) rest h.3)

-- a step for each die at most
length_playable : (b : Position) (p : Player) (dice : List ℕ) (steps : List FromTo) → IsPlayable b p dice steps → length steps ≤ length dice
length_playable b p dice [] h = omega arith
length_playable b p dice (step ∷ rest) h =
    let fewer = length-remove dice h.0 h.1 in
    let others = length_playable (after_step b p step) p (remove dice h.0) rest h.3 in
    omega arith

length_dice : (dice : Dice) → length (dice_list dice) ≤ 4
length_dice dice = go (eqb (first_pips dice) (second_pips dice)) where
  go : (t : Bool) → length (cond t (replicate 4 (first_pips dice)) (first_pips dice ∷ second_pips dice ∷ [])) ≤ 4
  go true = omega arith
  go false = omega arith

pub legal_in_range : (b : Position) (p : Player) (dice : Dice) (steps : List FromTo) → IsLegalTurn b p dice steps → IsTurn steps
legal_in_range b p dice steps h = record {
  few = (let few = length_playable b p (dice_list dice) steps h.playable in let dice_few = length_dice dice in omega arith);
  each = playable_downward b p (dice_list dice) steps h.playable;
}
