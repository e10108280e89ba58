-- A player has a legal turn in every position, with any dice.
use Rattle.std.proofs.Common.{◌≡◌, ◌≢◌, ℕ, ◌+◌, ◌<◌, ◌≤◌, zero, suc, Bool, true, false, cond}
use Rattle.std.proofs.Common.{eqb, max, List, [], ◌∷◌, length, remove, replicate, refl, subst, arith, inl, inr}
use Rattle.std.proofs.lemmas.Bool.{cases_eq, cases_lt, eqb-true}
use Rattle.std.proofs.lemmas.List.Edits.{length-remove}
use Rattle.std.specs.Prelude.{Contains, ◌↔◌}
use Rattle.bg_board.specs.FromTo.{FromTo}
use Rattle.bg_board.specs.Position.{Position}
use Rattle.bg_board.specs.Step.{IsStep, after_step}
use Rattle.bg_board.specs.declared.players.Player.{Player}
use Rattle.bg_turns.specs.Dice.{dice_list, first_pips, second_pips, larger_die}
use Rattle.bg_turns.specs.Turn.{IsLegalTurn, IsLongest, IsPlayable, UsesLarger}
use Rattle.bg_turns.specs.declared.throws.Dice.{Dice}

-- a step for each die at most
playable_few : (b : Position) (p : Player) (dice : List ℕ) (steps : List FromTo)
    → IsPlayable b p dice steps → length steps ≤ length dice
playable_few b p dice [] h = omega arith
playable_few b p dice (step ∷ rest) h =
    let fewer = length-remove dice h.0 h.1 in
    let others = playable_few (after_step b p step) p (remove dice h.0) rest h.3 in
    omega arith

dice_few : (dice : Dice) → length (dice_list dice) ≤ 4
dice_few dice = go (eqb (first_pips dice) (second_pips dice)) where
  go : (t : Bool) → length (cond t (replicate 4 (first_pips dice)) (first_pips dice ∷ second_pips dice ∷ [])) ≤ 4
  go true = omega arith
  go false = omega arith

-- a step by the greater of two numbers
either_playable : (b : Position) (p : Player) (x o : ℕ) (step : FromTo)
    → IsStep b p step (max x o) → IsPlayable b p (x ∷ o ∷ []) (step ∷ [])
either_playable b p x o step h = elim (cases_lt x o) [
  | inl less ↦ (1, omega arith, subst (λ (n : ℕ). IsStep b p step n) (omega arith) h, tt)
  | inr not ↦ (0, omega arith, subst (λ (n : ℕ). IsStep b p step n) (omega arith) h, tt)
]

larger_playable : (b : Position) (p : Player) (dice : Dice) (step : FromTo) → first_pips dice ≢ second_pips dice
    → IsStep b p step (larger_die dice) → IsPlayable b p (dice_list dice) (step ∷ [])
larger_playable b p dice step differ h = go (eqb (first_pips dice) (second_pips dice)) refl where
  go : (t : Bool) → eqb (first_pips dice) (second_pips dice) ≡ t
      → IsPlayable b p (cond t (replicate 4 (first_pips dice)) (first_pips dice ∷ second_pips dice ∷ [])) (step ∷ [])
  go true same = absurd (differ (eqb-true _ _ same))
  go false same = either_playable b p (first_pips dice) (second_pips dice) step h

-- a step by the larger die is one by the larger die
by_larger : (b : Position) (p : Player) (dice : Dice) (step : FromTo)
    → IsStep b p step (larger_die dice) → UsesLarger b p dice (step ∷ [])
by_larger b p dice step h other same differ can =
    let is : step ≡ other = cc in
    subst (λ (s : FromTo). IsStep b p s (larger_die dice)) is h

module _ (b : Position) (p : Player) (dice : Dice) (none : (steps : List FromTo) → IsLegalTurn b p dice steps → ⊥) where
  -- were a list of steps as long as any, it or another would be legal
  none_longest : (steps : List FromTo) → IsPlayable b p (dice_list dice) steps
      → IsLongest b p (dice_list dice) (length steps) → ⊥
  none_longest steps played longest = none steps (record { playable = played; complete = inr (longest, larger) }) where
    larger : UsesLarger b p dice steps
    larger step single differ can =
        let longest_one = subst (λ (s : List FromTo). IsLongest b p (dice_list dice) (length s)) single longest in
        absurd (none (can.0 ∷ []) (record {
          playable = larger_playable b p dice can.0 differ can.1;
          complete = inr (longest_one, by_larger b p dice can.0 can.1);
        }))

  no_longer : (k n : ℕ) → k + n ≡ 4 → IsLongest b p (dice_list dice) n
  no_longer zero n many steps played =
      let few = playable_few b p (dice_list dice) steps played in
      let four = dice_few dice in
      omega arith
  no_longer (suc k) n many steps played =
      let few = no_longer k (suc n) (omega arith) in
      elim (cases_eq (length steps) (suc n)) [
        | inl same ↦ absurd (none_longest steps played (rw same few))
        | inr other ↦ (let less = few steps played in omega arith)
      ]

  no_turn : ⊥
  no_turn = none_longest [] tt (no_longer 4 0 refl)

-- so a list of all legal turns is not empty
pub some_turn : (b : Position) (p : Player) (dice : Dice) (turns : List (List FromTo))
    → ((steps : List FromTo) → Contains turns steps ↔ IsLegalTurn b p dice steps) → 0 < length turns
some_turn b p dice [] exactly =
    absurd (no_turn b p dice (λ steps legal. let at = (exactly steps).1 legal in let low = at.1 in omega arith))
some_turn b p dice (turn ∷ rest) exactly = omega arith
