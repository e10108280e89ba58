-- A turn is legal or it is not: which of the two, can be computed.
use Rattle.std.specs.Prelude.{◌≡◌, ◌≢◌, ◌⊎◌, ℕ, max, Bool, true, false, List, [], ◌∷◌, length, replicate}
use Rattle.std.proofs.Common.{refl, subst, arith, inl, inr}
use Rattle.std.proofs.lemmas.Bool.{cases_eq, cases_lt}
use Rattle.bg_board.specs.FromTo.{FromTo}
use Rattle.bg_board.specs.Position.{Position, count, HasAllOff}
use Rattle.bg_board.specs.Step.{IsStep, after_step}
use Rattle.bg_board.specs.declared.players.Player.{Player}
use Rattle.bg_turns.specs.Dice.{dice_list, first_pips, second_pips, larger_die}
use Rattle.bg_turns.specs.InOrder.{IsInOrder}
use Rattle.bg_turns.specs.Turn.{IsPlayable, IsLongest, IsMost, CanStep, UsesLarger, IsLegalTurn, after_steps}
use Rattle.bg_turns.specs.declared.throws.Dice.{Dice}
use Rattle.bg_turns.proofs.Computed.{numbers_of, step_from, no_step_from, longest, longest_most}
use Rattle.bg_turns.proofs.MostSteps.{can_step_from_most, most_from_can_step}
use Rattle.bg_turns.proofs.Orders.{playable_in_order, playable_swapped, in_either_order, in_only_order, dice_list-double, dice_list-two, most_double, most_two}

-- it holds, or it does not
abbrev pub Decided : Type 0 → Type 0
Decided P = P ⊎ (P → ⊥)

pub both : {P Q : Type 0} → Decided P → Decided Q → Decided (P × Q)
both (inl p) (inl q) = inl (p, q)
both (inl p) (inr not) = inr (λ h. not h.1)
both (inr not) q = inr (λ h. not h.0)

pub either : {P Q : Type 0} → Decided P → Decided Q → Decided (P ⊎ Q)
either (inl p) q = inl (inl p)
either (inr none) (inl q) = inl (inr q)
either {P} {Q} (inr none) (inr nor) = inr neither
  where
    neither : P ⊎ Q → ⊥
    neither (inl p) = none p
    neither (inr q) = nor q

pub decided_by : {P Q : Type 0} → (P → Q) → (Q → P) → Decided P → Decided Q
decided_by to back (inl p) = inl (to p)
decided_by to back (inr not) = inr (λ q. not (back q))

-- ---- steps

decided_step : (b : Position) (p : Player) (s : FromTo) (die : ℕ) → Decided (IsStep b p s die)
decided_step b p s die = by_test (numbers_of b p s die) refl
  where
    by_test : (t : Bool) → numbers_of b p s die ≡ t → Decided (IsStep b p s die)
    by_test true e = inl (step_from b p s die e)
    by_test false e = inr (no_step_from b p s die e)

decided_in_order : (b : Position) (p : Player) (dice : List ℕ) (steps : List FromTo) → Decided (IsInOrder b p dice steps)
decided_in_order b p dice [] = inl tt
decided_in_order b p [] (step ∷ rest) = inr (λ h. h)
decided_in_order b p (die ∷ dice) (step ∷ rest) =
    both (decided_step b p step die) (decided_in_order (after_step b p step) p dice rest)

decided_can_step : (b : Position) (p : Player) (die : ℕ) → Decided (CanStep b p die)
decided_can_step b p die =
    let most = longest_most b p (die ∷ []) in
    elim (cases_lt 0 (longest b p (die ∷ []))) [
      | inl some ↦ inl (can_step_from_most b p die (longest b p (die ∷ [])) most some)
      | inr none ↦ inr (λ can. let some = most_from_can_step b p die (longest b p (die ∷ [])) most can in omega (arith, none, some))
    ]

-- ---- the steps of a throw

decided_playable : (b : Position) (p : Player) (dice : Dice) (steps : List FromTo) → Decided (IsPlayable b p (dice_list dice) steps)
decided_playable b p dice steps = elim (cases_eq (first_pips dice) (second_pips dice)) [
  | inl same ↦ rw (dice_list-double dice same)
      (decided_by (playable_in_order b p (replicate 4 (first_pips dice)) steps) (in_only_order 4 b p (first_pips dice) steps)
      (decided_in_order b p (replicate 4 (first_pips dice)) steps))
  | inr other ↦ rw (dice_list-two dice other)
      (decided_by (in_one (first_pips dice) (second_pips dice)) (in_either_order b p (first_pips dice) (second_pips dice) steps)
      (either (decided_in_order b p (first_pips dice ∷ second_pips dice ∷ []) steps) (decided_in_order b p (second_pips dice ∷ first_pips dice ∷ []) steps)))
]
  where
    in_one : (d e : ℕ) → IsInOrder b p (d ∷ e ∷ []) steps ⊎ IsInOrder b p (e ∷ d ∷ []) steps → IsPlayable b p (d ∷ e ∷ []) steps
    in_one d e (inl forth) = playable_in_order b p (d ∷ e ∷ []) steps forth
    in_one d e (inr back) = playable_swapped b p d e steps back

some_most : (b : Position) (p : Player) (dice : Dice) → (n : ℕ) × IsMost b p (dice_list dice) n
some_most b p dice = elim (cases_eq (first_pips dice) (second_pips dice)) [
  | inl same ↦ rw (dice_list-double dice same)
      (longest b p (replicate 4 (first_pips dice)), most_double b p (first_pips dice) _ (longest_most b p (replicate 4 (first_pips dice))))
  | inr other ↦ rw (dice_list-two dice other)
      (max (longest b p (first_pips dice ∷ second_pips dice ∷ [])) (longest b p (second_pips dice ∷ first_pips dice ∷ [])), most_two b p (first_pips dice) (second_pips dice) _ _ (longest_most b p (first_pips dice ∷ second_pips dice ∷ [])) (longest_most b p (second_pips dice ∷ first_pips dice ∷ [])))
]

decided_longest : (b : Position) (p : Player) (dice : Dice) (n : ℕ) → Decided (IsLongest b p (dice_list dice) n)
decided_longest b p dice n =
    let most = some_most b p dice in
    elim (cases_lt n most.0) [
      | inl fewer ↦ inr (λ long. let few = long most.1.reached.0 most.1.reached.1 in omega (arith, few, most.1.reached.2, fewer))
      | inr all ↦ inl (λ steps played. let few = most.1.greatest steps played in omega (arith, few, all))
    ]

decided_larger : (b : Position) (p : Player) (dice : Dice) (steps : List FromTo) → Decided (UsesLarger b p dice steps)
decided_larger b p dice [] = inl (λ step e differ can. absurd cc)
decided_larger b p dice (first ∷ second ∷ rest) = inl (λ step e differ can. absurd cc)
decided_larger b p dice (only ∷ []) = elim (cases_eq (first_pips dice) (second_pips dice)) [
  | inl same ↦ inl (λ step e differ can. absurd (differ same))
  | inr other ↦ of other (decided_can_step b p (larger_die dice)) (decided_step b p only (larger_die dice))
]
  where
    of : first_pips dice ≢ second_pips dice → Decided (CanStep b p (larger_die dice)) → Decided (IsStep b p only (larger_die dice)) → Decided (UsesLarger b p dice (only ∷ []))
    of other (inr none) by = inl (λ step e differ can. absurd (none can))
    of other (inl can) (inr not) = inr (λ uses. not (uses only refl other can))
    of other (inl can) (inl by) =
        inl (λ step e differ can. let same : only ≡ step = cc in subst (λ (s : FromTo). IsStep b p s (larger_die dice)) same by)

pub decided_turn : (b : Position) (p : Player) (dice : Dice) (steps : List FromTo) → Decided (IsLegalTurn b p dice steps)
decided_turn b p dice steps =
    decided_by (λ h. record { playable = h.0; complete = h.1 }) (λ h. (h.playable, h.complete))
    (both (decided_playable b p dice steps)
    (either (decided_off (after_steps b p steps) p) (both (decided_longest b p dice (length steps)) (decided_larger b p dice steps))))
  where
    decided_off : (after : Position) (player : Player) → Decided (HasAllOff after player)
    decided_off after player = cases_eq (count after player 0) 15
