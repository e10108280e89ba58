-- Whether a player has a step: the truth value says what the definition says.
use Rattle.std.proofs.Common.{◌≡◌, ◌⊎◌, ℕ, zero, suc, ◌-◌, ◌<◌, ◌≤◌, Bool, true, false, cond, ◌||◌, eqb, List, [], ◌∷◌, length, replicate, refl, sym, ◌∙◌, ap, subst, arith, inl, inr}
use Rattle.std.specs.Prelude.{slice_index, nat_lt}
use Rattle.std.proofs.lemmas.Bool.{cases_eq, eqb-true, or_cases}
use Rattle.std.proofs.lemmas.Bool.Decides.{nat_tests}
use Rattle.bg_board.specs.FromTo.{FromTo}
use Rattle.bg_board.specs.Position.{Position}
use Rattle.bg_board.specs.Step.{IsStep}
use Rattle.bg_board.specs.declared.players.Player.{Player}
use Rattle.bg_turns.specs.Dice.{dice_list, first_pips, second_pips}
use Rattle.bg_turns.specs.HasStep.{is_step, steps_by, has_step, TellsSteps}
use Rattle.bg_turns.specs.Turn.{CanStep, IsLongest, IsMost, IsPlayable}
use Rattle.bg_turns.specs.declared.throws.Dice.{Dice}
use Rattle.bg_turns.proofs.Computed.{step_from, no_step_from}

or_true : (a b : Bool) → b ≡ true → (a || b) ≡ true
or_true true b h = refl
or_true false b h = h

or_first : (a b : Bool) → a ≡ true → (a || b) ≡ true
or_first true b h = refl
or_first false b h = absurd cc

is_legal : (b : Position) (p : Player) (s : FromTo) (d : ℕ) → IsStep b p s d → is_step b p s d ≡ true
is_legal b p s d h = go (is_step b p s d) refl
  where
    go : (t : Bool) → is_step b p s d ≡ t → is_step b p s d ≡ true
    go true e = e
    go false e = absurd (no_step_from b p s d e h)

abbrev by : ℕ → ℕ → FromTo
by from die = record { from = from; to = from - die }

found : (b : Position) (p : Player) (d n from : ℕ) → 1 ≤ from → from ≤ n → is_step b p (by from d) d ≡ true → steps_by b p d n ≡ true
found b p d zero from some le h = absurd (omega (arith, some, le))
found b p d (suc n) from some le h = elim (cases_eq from (suc n)) [
  | inl same ↦ or_first _ _ (subst (λ (k : ℕ). is_step b p (by k d) d ≡ true) same h)
  | inr other ↦ or_true _ _ (found b p d n from some (omega (arith, le, other)) h)
]

has : (b : Position) (p : Player) (d n : ℕ) → steps_by b p d n ≡ true → CanStep b p d
has b p d zero h = absurd cc
has b p d (suc n) h = elim (or_cases (is_step b p (by (suc n) d) d) (steps_by b p d n) h) [
  | inl here ↦ (by (suc n) d, step_from b p (by (suc n) d) d here)
  | inr later ↦ has b p d n later
]

-- a step by a die is found
finds : (b : Position) (p : Player) (d : ℕ) (s : FromTo) → IsStep b p s d → steps_by b p d 25 ≡ true
finds b p d s h =
    let same : s ≡ by s.from d = ap (λ (t : ℕ). record s { to = t }) h.landing in
    found b p d 25 s.from (omega (arith, h.downward)) h.starts (is_legal b p (by s.from d) d (subst (λ (t : FromTo). IsStep b p t d) same h))

-- each die of the list is one of the two
one_of_two : (dice : Dice) (i : ℕ) → i < length (dice_list dice) → (slice_index (dice_list dice) i ≡ first_pips dice) ⊎ (slice_index (dice_list dice) i ≡ second_pips dice)
one_of_two dice i lt = go (eqb (first_pips dice) (second_pips dice)) i lt
  where
    go : (t : Bool) (i : ℕ) → i < length (cond t (replicate 4 (first_pips dice)) (first_pips dice ∷ second_pips dice ∷ []))
        → (slice_index (cond t (replicate 4 (first_pips dice)) (first_pips dice ∷ second_pips dice ∷ [])) i ≡ first_pips dice)
        ⊎ (slice_index (cond t (replicate 4 (first_pips dice)) (first_pips dice ∷ second_pips dice ∷ [])) i ≡ second_pips dice)
    go true zero lt = inl refl
    go true (suc zero) lt = inl refl
    go true (suc (suc zero)) lt = inl refl
    go true (suc (suc (suc zero))) lt = inl refl
    go true (suc (suc (suc (suc n)))) lt = absurd (omega (arith, lt))
    go false zero lt = inl refl
    go false (suc zero) lt = inr refl
    go false (suc (suc n)) lt = absurd (omega (arith, lt))

first_playable : (b : Position) (p : Player) (dice : Dice) (s : FromTo) → IsStep b p s (first_pips dice) → IsPlayable b p (dice_list dice) (s ∷ [])
first_playable b p dice s h = go (eqb (first_pips dice) (second_pips dice))
  where
    go : (t : Bool) → IsPlayable b p (cond t (replicate 4 (first_pips dice)) (first_pips dice ∷ second_pips dice ∷ [])) (s ∷ [])
    go true = (0, omega arith, h, tt)
    go false = (0, omega arith, h, tt)

second_playable : (b : Position) (p : Player) (dice : Dice) (s : FromTo) → IsStep b p s (second_pips dice) → IsPlayable b p (dice_list dice) (s ∷ [])
second_playable b p dice s h = go (eqb (first_pips dice) (second_pips dice)) refl
  where
    go : (t : Bool) → eqb (first_pips dice) (second_pips dice) ≡ t → IsPlayable b p (cond t (replicate 4 (first_pips dice)) (first_pips dice ∷ second_pips dice ∷ [])) (s ∷ [])
    go true same = (0, omega arith, subst (λ (d : ℕ). IsStep b p s d) (sym (eqb-true _ _ same)) h, tt)
    go false same = (1, omega arith, h, tt)

none_longer : (b : Position) (p : Player) (dice : Dice) → IsLongest b p (dice_list dice) 0 → has_step b p dice ≡ true → ⊥
unfolding has_step
none_longer b p dice none h = elim (or_cases (steps_by b p (first_pips dice) 25) (steps_by b p (second_pips dice) 25) h) [
  | inl by_first ↦ (let s = has b p (first_pips dice) 25 by_first in let few = none (s.0 ∷ []) (first_playable b p dice s.0 s.1) in omega (arith, few))
  | inr by_second ↦ (let s = has b p (second_pips dice) 25 by_second in let few = none (s.0 ∷ []) (second_playable b p dice s.0 s.1) in omega (arith, few))
]

a_step : (b : Position) (p : Player) (dice : Dice) (step : FromTo) (rest : List FromTo) → IsPlayable b p (dice_list dice) (step ∷ rest) → has_step b p dice ≡ true
unfolding has_step
a_step b p dice step rest h = elim (one_of_two dice h.0 h.1) [
  | inl first ↦ or_first _ _ (finds b p (first_pips dice) step (subst (λ (d : ℕ). IsStep b p step d) first h.2))
  | inr second ↦ or_true _ _ (finds b p (second_pips dice) step (subst (λ (d : ℕ). IsStep b p step d) second h.2))
]

not_true : (t : Bool) → (t ≡ true → ⊥) → t ≡ false
not_true true h = absurd (h refl)
not_true false h = refl

pub tells_steps : TellsSteps
tells_steps b p dice = (λ none steps played. few none steps played, λ longest. not_true (has_step b p dice) (none_longer b p dice longest))
  where
    few : has_step b p dice ≡ false → (steps : List FromTo) → IsPlayable b p (dice_list dice) steps → length steps ≤ 0
    few none [] played = omega arith
    few none (step ∷ rest) played = absurd (let some = a_step b p dice step rest played in cc)

-- the greatest number of steps says it too
pub most_tells : (b : Position) (p : Player) (dice : Dice) (n : ℕ) → IsMost b p (dice_list dice) n → nat_lt 0 n ≡ has_step b p dice
most_tells b p dice zero h = sym ((tells_steps b p dice).1 h.greatest)
most_tells b p dice (suc n) h = above n ∙ sym (some (has_step b p dice) refl)
  where
    above : (n : ℕ) → nat_lt 0 (suc n) ≡ true
    above n = grind (arith, nat_tests)

    some : (t : Bool) → has_step b p dice ≡ t → has_step b p dice ≡ true
    some true e = e
    some false e = absurd (let few = (tells_steps b p dice).0 e (h.reached).0 (h.reached).1 in let many = (h.reached).2 in omega (arith, few, many))
