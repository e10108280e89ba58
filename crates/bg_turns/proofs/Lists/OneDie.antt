-- The lists of steps by one die are those that can be played, each once, the greatest first.
use Rattle.std.proofs.Common.{◌≡◌, ◌≢◌, ◌↔◌, ℕ, zero, suc, ◌-◌, ◌<◌, ◌≤◌, true, false, List, [], ◌∷◌, length, get_or, replicate, refl, sym, ◌∙◌, ap, subst, arith, inl, inr, ◌⊎◌}
use Rattle.std.specs.Prelude.{Contains, AllPairs}
use Rattle.std.proofs.lemmas.Bool.{cases_Bool, cond-true, cond-false, both_ways}
use Rattle.bg_board.specs.Position.{Position, HasAllOff}
use Rattle.bg_board.specs.FromTo.{FromTo}
use Rattle.bg_board.specs.Step.{IsStep, after_step}
use Rattle.bg_board.specs.declared.players.Player.{Player}
use Rattle.bg_board.proofs.Carried.{sum-carried, length-carried}
use Rattle.bg_turns.specs.declared.mover_counts.MoverCounts.{MoverCounts}
use Rattle.bg_turns.specs.MoverCounts.{Stands, IsMoverCounts, step_of, after, is_off, at_each, one_die, tree}
use Rattle.bg_turns.specs.InOrder.{IsInOrder}
use Rattle.bg_turns.specs.Turn.{after_steps}
use Rattle.bg_turns.specs.TurnOrder.{IsGreater}
use Rattle.bg_turns.proofs.MostSteps.{FromTo-ext}
use Rattle.bg_turns.proofs.Sides.{Stands-after, step_from_can, can_from_step, none_when_off, is_off-iff}
use Rattle.bg_turns.proofs.Lists.Listed.{AllPairs-one, at_each-ordered, at_each_contains, contains_at_each, contains_one_die, one_die-ordered, one_die-starts, one_die_contains, only_empty}

tree-none : (die : ℕ) (r : MoverCounts) → tree die 0 r ≡ [] ∷ []
unfolding tree
tree-none die r = refl

tree-off : (die k : ℕ) (r : MoverCounts) → is_off r ≡ true → tree die (suc k) r ≡ [] ∷ []
unfolding tree
tree-off die k r off = cond-true (is_off r) _ _ off

pub tree-on : (die k : ℕ) (r : MoverCounts) → is_off r ≡ false → tree die (suc k) r ≡ at_each (one_die r die (tree die k)) 25
unfolding tree
tree-on die k r on = cond-false (is_off r) _ _ on

pub tree-end : (die k : ℕ) (r : MoverCounts) → (k ≡ 0) ⊎ (is_off r ≡ true) → tree die k r ≡ [] ∷ []
tree-end die zero r h = tree-none die r
tree-end die (suc k) r (inl none) = absurd (omega arith)
tree-end die (suc k) r (inr off) = tree-off die k r off

pub tree-at : (die k : ℕ) (r : MoverCounts) → k ≢ 0 → is_off r ≡ false → tree die k r ≡ at_each (one_die r die (tree die (k - 1))) 25
tree-at die zero r some on = absurd (some refl)
tree-at die (suc k) r some on = let back : suc k - 1 ≡ k = omega arith in rw back (tree-on die k r on)

pub tree-ordered : (die k : ℕ) (r : MoverCounts) → AllPairs IsGreater (tree die k r)
tree-ordered die zero r = rw (tree-none die r) (AllPairs-one [])
tree-ordered die (suc k) r = elim (cases_Bool (is_off r)) [
  | inl off ↦ rw (tree-off die k r off) (AllPairs-one [])
  | inr on ↦
      rw (tree-on die k r on)
      (at_each-ordered (one_die r die (tree die k)) 25
      (λ m. one_die-ordered r die (tree die k) m (tree-ordered die k))
      (one_die-starts r die (tree die k)))
]

-- the steps can be played, and they are k, or all checkers are off after them
abbrev pub IsFull : Position → Player → List ℕ → ℕ → List FromTo → Type 0
IsFull b p dice k steps = IsInOrder b p dice steps × ((length steps ≡ k) ⊎ HasAllOff (after_steps b p steps) p)

pub IsMoverCounts-after : (r : MoverCounts) (from to : ℕ) → IsMoverCounts r → from ≤ 25 → to ≤ 25 → 0 < get_or r.own from 0 → IsMoverCounts (after r from to)
IsMoverCounts-after r from to is f t held = record {
  points = length-carried r.own from to ∙ is.points;
  fifteen = sum-carried r.own from to is.points (omega arith) (omega arith) held ∙ is.fifteen;
}

-- with all checkers off only the empty list can be played
pub full-off : (r : MoverCounts) (b : Position) (p : Player) → Stands r b p → IsMoverCounts r → is_off r ≡ true → (dice : List ℕ) (k : ℕ) (steps : List FromTo) → Contains ([] ∷ []) steps ↔ IsFull b p dice k steps
full-off r b p s is off dice k [] = (λ h. (tt, inr ((is_off-iff r b p s).0 off)), λ h. (0, omega arith, refl))
full-off r b p s is off [] k (step ∷ rest) = (λ h. let wrong = only_empty (step ∷ rest) h in cc, λ h. absurd h.0)
full-off r b p s is off (die ∷ dice) k (step ∷ rest) = (
  λ h. let wrong = only_empty (step ∷ rest) h in cc,
  λ h.
      let none = rw s.own at (none_when_off r is off step.from (let d = h.0.0.downward in omega arith)) in
      let held = h.0.0.may_start.0 in
      absurd (omega arith),
)

-- the lists of one step more, by the lists after it
module _ (r : MoverCounts) (b : Position) (p : Player) (s : Stands r b p) (is : IsMoverCounts r) (die : ℕ) (some : 1 ≤ die) (dice : List ℕ) (k : ℕ) (rest : MoverCounts → List (List FromTo)) (more : (q : MoverCounts) (c : Position) → Stands q c p → IsMoverCounts q → (tail : List FromTo) → Contains (rest q) tail ↔ IsFull c p dice k tail) where
  pub full_from_one : (from : ℕ) → 1 ≤ from → from ≤ 25 → (steps : List FromTo) → Contains (one_die r die rest from) steps → IsFull b p (die ∷ dice) (suc k) steps
  full_from_one from low high steps h =
      let c = one_die_contains r die rest from steps h in
      let legal = step_from_can r b p s from die low high some c.1 in
      let held : 0 < get_or r.own from 0 = rw s.own legal.may_start.0 in
      let tail = (more (after r from (from - die)) (after_step b p (step_of from die)) (Stands-after r b p from (from - die) s (omega arith)) (IsMoverCounts-after r from (from - die) is high (omega arith) held) c.0).0 c.2 in
      rw c.3 ((legal, tail.0), elim tail.1 [ inl long ↦ inl (ap suc long) | inr off ↦ inr off ])

  pub one_from_full : (step : FromTo) (tail : List FromTo) → IsFull b p (die ∷ dice) (suc k) (step ∷ tail) → Contains (one_die r die rest step.from) (step ∷ tail)
  one_from_full step tail h =
      let legal = h.0.0 in
      let starts = legal.starts in
      let downward = legal.downward in
      let same : step ≡ step_of step.from die = FromTo-ext step step.from (step.from - die) refl legal.landing in
      let there : IsStep b p (step_of step.from die) die = subst (λ (u : FromTo). IsStep b p u die) same legal in
      let passed = can_from_step r b p s step.from die (omega arith) starts some there in
      let held : 0 < get_or r.own step.from 0 = rw s.own legal.may_start.0 in
      let full : IsFull (after_step b p (step_of step.from die)) p dice k tail =
      subst (λ (u : FromTo). IsFull (after_step b p u) p dice k tail) same (h.0.1, elim h.1 [ inl long ↦ inl (omega arith) | inr off ↦ inr off ]) in
      let inside = (more (after r step.from (step.from - die)) (after_step b p (step_of step.from die)) (Stands-after r b p step.from (step.from - die) s (omega arith)) (IsMoverCounts-after r step.from (step.from - die) is starts (omega arith) held) tail).1 full in
      subst (λ (u : FromTo). Contains (one_die r die rest step.from) (u ∷ tail)) (sym same) (contains_one_die r die rest step.from tail passed inside)

module _ (r : MoverCounts) (b : Position) (p : Player) (s : Stands r b p) (is : IsMoverCounts r) (die : ℕ) (some : 1 ≤ die) (k : ℕ) (more : (q : MoverCounts) (c : Position) → Stands q c p → IsMoverCounts q → (tail : List FromTo) → Contains (tree die k q) tail ↔ IsFull c p (replicate k die) k tail) where
  tree_forth : (steps : List FromTo) → Contains (at_each (one_die r die (tree die k)) 25) steps → IsFull b p (die ∷ replicate k die) (suc k) steps
  tree_forth steps h =
      let m = at_each_contains (one_die r die (tree die k)) 25 steps h in
      full_from_one r b p s is die some (replicate k die) k (tree die k) more m.0 m.1 m.2 steps m.3

  tree_back : is_off r ≡ false → (steps : List FromTo) → IsFull b p (die ∷ replicate k die) (suc k) steps → Contains (at_each (one_die r die (tree die k)) 25) steps
  tree_back on [] h = elim h.1 [
    | inl long ↦ absurd (omega arith)
    | inr off ↦ absurd (both_ways (is_off r) on ((is_off-iff r b p s).1 off))
  ]
  tree_back on (step ∷ tail) h =
      let starts = h.0.0.starts in
      let downward = h.0.0.downward in
      contains_at_each (one_die r die (tree die k)) 25 step.from (step ∷ tail) (omega arith) starts
      (one_from_full r b p s is die some (replicate k die) k (tree die k) more step tail h)

pub tree-lists : (die : ℕ) (some : 1 ≤ die) (k : ℕ) (r : MoverCounts) (b : Position) (p : Player) → Stands r b p → IsMoverCounts r → (steps : List FromTo) → Contains (tree die k r) steps ↔ IsFull b p (replicate k die) k steps
tree-lists die some zero r b p s is [] = rw (tree-none die r) (λ h. (tt, inl refl), λ h. (0, omega arith, refl))
tree-lists die some zero r b p s is (step ∷ rest) = rw (tree-none die r) (λ h. let wrong = only_empty (step ∷ rest) h in cc, λ h. absurd h.0)
tree-lists die some (suc k) r b p s is steps = elim (cases_Bool (is_off r)) [
  | inl off ↦ rw (tree-off die k r off) (full-off r b p s is off (die ∷ replicate k die) (suc k) steps)
  | inr on ↦ rw (tree-on die k r on) (tree_forth r b p s is die some k (λ q c t u. tree-lists die some k q c p t u) steps, tree_back r b p s is die some k (λ q c t u. tree-lists die some k q c p t u) on steps)
]
