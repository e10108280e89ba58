-- The search for the greatest number of steps on the mover's counts, from the highest point down.
use Rattle.std.proofs.Common.{◌≡◌, ◌≢◌, ◌↔◌, ℕ, ◌+◌, ◌-◌, ◌<◌, ◌≤◌, max, Bool, true, false, List, [], ◌∷◌, length, get_or, refl, sym, ◌∙◌, ap, not, eqb, subst, arith, inl, inr, w32}
use Rattle.std.specs.Int.{trailing_zeros}
use Rattle.std.specs.Bool.{OnTrue}
use Rattle.std.proofs.lemmas.Bool.{cases_eq, cases_lt, ne_eqb}
use Rattle.std.proofs.lemmas.Nat.Bits.{bit_at-zero}
use Rattle.bg_board.specs.Position.{Position}
use Rattle.bg_board.specs.FromTo.{FromTo}
use Rattle.bg_board.specs.Step.{IsStep, after_step}
use Rattle.bg_board.specs.declared.players.Player.{Player}
use Rattle.bg_turns.specs.declared.mover_counts.MoverCounts.{MoverCounts}
use Rattle.bg_turns.specs.MoverCounts.{Stands, step_of, can, after}
use Rattle.bg_turns.specs.InOrder.{IsInOrder, IsMostInOrder}
use Rattle.bg_turns.specs.Turn.{CanStep}
use Rattle.bg_turns.specs.Masks.{ArePlaces}
use Rattle.bg_turns.proofs.MostSteps.{FromTo-ext, most_of_all}
use Rattle.bg_turns.proofs.Sides.{Stands-after, step_from_can, can_from_step, held_from_can}
use Rattle.bg_turns.proofs.Lists.Opened.{IsLeft, CanFrom, place_low, place_passed, none_between}

-- the first step, if there is one, starts above a point
abbrev pub StartsAbove : ℕ → List FromTo → Type 0
StartsAbove n [] = Unit {0}
StartsAbove n (step ∷ rest) = n < step.from

-- no more than n of the steps that start above a point can be played
pub record IsMostAbove (b : Position) (player : Player) (dice : List ℕ) (point n : ℕ) : Type 0 where
  pub reached : (steps : List FromTo) × IsInOrder b player dice steps × (length steps ≡ n)
  pub greatest : (steps : List FromTo) → IsInOrder b player dice steps → StartsAbove point steps → length steps ≤ n

-- a step by the die is the step from its point
module _ (r : MoverCounts) (b : Position) (p : Player) (s : Stands r b p) (die : ℕ) (some : 1 ≤ die) (step : FromTo) (legal : IsStep b p step die) where
  pub step_is : step ≡ step_of step.from die
  step_is = FromTo-ext step step.from (step.from - die) refl legal.landing

  pub can_there : can r step.from die ≡ true
  can_there =
      let starts = legal.starts in
      let downward = legal.downward in
      can_from_step r b p s step.from die (omega arith) starts some (subst (λ (u : FromTo). IsStep b p u die) step_is legal)

-- the test of a step on the mover's counts
pub step_by_test : (r : MoverCounts) (b : Position) (p : Player) → Stands r b p → (die : ℕ) → 1 ≤ die → (step : FromTo) → 1 ≤ step.from → step.from ≤ 25 → step.to ≡ step.from - die → (t : Bool) → t ≡ can r step.from die → (t ≡ true) ↔ IsStep b p step die
step_by_test r b p s die some step low high lands t is =
    let same : step ≡ step_of step.from die = FromTo-ext step step.from (step.from - die) refl lands in (
      λ yes. subst (λ (u : FromTo). IsStep b p u die) (sym same) (step_from_can r b p s step.from die low high some (sym is ∙ yes)),
      λ legal. is ∙ can_there r b p s die some step legal,
    )

pub held_by_test : (r : MoverCounts) (from die : ℕ) (t : Bool) → t ≡ can r from die → OnTrue t (0 < get_or r.own from 0)
held_by_test r from die true is = held_from_can r from die (sym is)
held_by_test r from die false is = tt

-- a step can be played where there is a place
module _ (r : MoverCounts) (b : Position) (p : Player) (s : Stands r b p) (die : ℕ) (some : 1 ≤ die) (places : ℕ) (are : ArePlaces places r die) where
  pub can_by_places : places ≢ 0 → places < 4294967296 → CanStep b p die
  can_by_places on small =
      let left = left_at_first in
      let low = place_low (CanFrom r die) 25 places left on small in
      let passed = place_passed (CanFrom r die) 25 places left on small in
      (step_of (25 - trailing_zeros w32 places) die, step_from_can r b p s (25 - trailing_zeros w32 places) die (omega arith) (omega arith) some passed) where
        left_at_first : IsLeft (CanFrom r die) 25 places
        left_at_first = record { within = omega arith; each = λ q low. (λ on. (omega arith, (are.each q low).0 on), λ h. (are.each q low).1 h.1); only = λ q past _. are.only q past }

  pub none_by_places : places ≡ 0 → CanStep b p die → ⊥
  none_by_places none can_step =
      let passed = can_there r b p s die some can_step.0 can_step.1 in
      let starts = can_step.1.starts in
      let downward = can_step.1.downward in
      let back : 25 - (25 - can_step.0.from) ≡ can_step.0.from = omega arith in
      let on = (are.each (25 - can_step.0.from) (omega arith)).1 (rw back passed) in
      let off = bit_at-zero (25 - can_step.0.from) in
      absurd (let zero_bit = rw none at on in omega arith)

pub some_place : (n : ℕ) → (n ≡ 0 → ⊥) → not (eqb n 0) ≡ true
some_place n some = ap not (ne_eqb n 0 some)

-- the greatest number with one die
pub most_of_step : (b : Position) (p : Player) (die : ℕ) → CanStep b p die → IsMostInOrder b p (die ∷ []) 1
most_of_step b p die can_step = record { reached = (can_step.0 ∷ [], (can_step.1, tt), refl); greatest = few } where
  few : (steps : List FromTo) → IsInOrder b p (die ∷ []) steps → length steps ≤ 1
  few [] played = omega arith
  few (step ∷ []) played = omega arith
  few (step ∷ more ∷ rest) played = absurd played.1

pub most_of_no_step : (b : Position) (p : Player) (die : ℕ) → (CanStep b p die → ⊥) → IsMostInOrder b p (die ∷ []) 0
most_of_no_step b p die none = record { reached = ([], tt, refl); greatest = few } where
  few : (steps : List FromTo) → IsInOrder b p (die ∷ []) steps → length steps ≤ 0
  few [] played = omega arith
  few (step ∷ rest) played = absurd (none (step, played.0))

module _ (b : Position) (p : Player) (die : ℕ) (dice : List ℕ) where
  above_all : (steps : List FromTo) → IsInOrder b p (die ∷ dice) steps → StartsAbove 25 steps → length steps ≤ 0
  above_all [] played above = omega arith
  above_all (step ∷ rest) played above = absurd (let starts = played.0.starts in omega arith)

  pub most_above_none : IsMostAbove b p (die ∷ dice) 25 0
  most_above_none = record { reached = ([], tt, refl); greatest = above_all }

  module _ (r : MoverCounts) (s : Stands r b p) (some : 1 ≤ die) (below places : ℕ) (left : IsLeft (CanFrom r die) below places) (n : ℕ) (above : IsMostAbove b p (die ∷ dice) below n) where
    -- where no place is left
    pub most_above_all : places ≡ 0 → IsMostInOrder b p (die ∷ dice) n
    most_above_all none = record { reached = above.reached; greatest = few } where
      few : (steps : List FromTo) → IsInOrder b p (die ∷ dice) steps → length steps ≤ n
      few [] played = omega arith
      few (step ∷ rest) played = elim (cases_lt below step.from) [
        | inl high ↦ above.greatest (step ∷ rest) played high
        | inr low ↦
            let passed = can_there r b p s die some step played.0 in
            let starts = played.0.starts in
            let downward = played.0.downward in
            let back : 25 - (25 - step.from) ≡ step.from = omega arith in
            let on = (left.each (25 - step.from) (omega arith)).1 (omega arith, rw back passed) in
            let off = bit_at-zero (25 - step.from) in
            absurd (let zero_bit = rw none at on in omega arith)
      ]

    module _ (on : places ≢ 0) (small : places < 4294967296) (to k : ℕ) (lands : to ≡ 25 - trailing_zeros w32 places - die)
        (rest : (c : Position) → Stands (after r (25 - trailing_zeros w32 places) to) c p → IsMostInOrder c p dice k) where
      abbrev start : ℕ
      start = 25 - trailing_zeros w32 places

      legal : IsStep b p (step_of start die) die
      legal =
          let low = place_low (CanFrom r die) below places left on small in
          step_from_can r b p s start die (omega arith) (omega arith) some (place_passed (CanFrom r die) below places left on small)

      rest_there : IsMostInOrder (after_step b p (step_of start die)) p dice k
      rest_there =
          let there = rest (after_step b p (record { from = start; to = to })) (Stands-after r b p start to s (omega arith)) in
          subst (λ (t : ℕ). IsMostInOrder (after_step b p (record { from = start; to = t })) p dice k) lands there

      pub deepest_all : 1 + k ≡ length (die ∷ dice) → IsMostInOrder b p (die ∷ dice) (1 + k)
      deepest_all all = most_of_all b p die dice (step_of start die) k legal rest_there all

      longer_of : (first second : List FromTo) → IsInOrder b p (die ∷ dice) first → length first ≡ n → IsInOrder b p (die ∷ dice) second → length second ≡ 1 + k → (steps : List FromTo) × IsInOrder b p (die ∷ dice) steps × (length steps ≡ max n (1 + k))
      longer_of first second x e y f = elim (cases_lt n (1 + k)) [
        | inl less ↦ (second, y, omega arith)
        | inr more ↦ (first, x, omega arith)
      ]

      few : (steps : List FromTo) → IsInOrder b p (die ∷ dice) steps → StartsAbove (start - 1) steps → length steps ≤ max n (1 + k)
      few [] played high = omega arith
      few (step ∷ tail) played high =
          let low = place_low (CanFrom r die) below places left on small in
          let passed = can_there r b p s die some step played.0 in
          elim (cases_eq step.from start) [
            | inl same ↦
                let is = FromTo-ext step start (start - die) same (rw (← same) played.0.landing) in
                let there : IsInOrder (after_step b p (step_of start die)) p dice tail =
                subst (λ (u : FromTo). IsInOrder (after_step b p u) p dice tail) is played.1 in
                let most = rest_there.greatest tail there in
                omega arith
            | inr other ↦ elim (cases_lt below step.from) [
              | inl higher ↦ (let most = above.greatest (step ∷ tail) played higher in omega arith)
              | inr between ↦ absurd (none_between (CanFrom r die) below places left on small step.from (omega arith) between passed)
            ]
          ]

      pub deepest_played : IsMostAbove b p (die ∷ dice) (start - 1) (max n (1 + k))
      deepest_played =
          let tail = rest_there.reached in
          record {
            reached = longer_of above.reached.0 (step_of start die ∷ tail.0) above.reached.1 above.reached.2 (legal, tail.1) (omega arith);
            greatest = few;
          }
