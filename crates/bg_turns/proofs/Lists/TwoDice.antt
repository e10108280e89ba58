-- The lists of steps by two dice are those that can be played, each once, the greatest first.
use Rattle.std.proofs.Common.{◌≡◌, ◌≢◌, ◌↔◌, ℕ, zero, suc, ◌+◌, ◌-◌, ◌<◌, ◌≤◌, true, false, ◌&&◌, ltb, List, [], ◌∷◌, ◌++◌, get_or, replicate, refl, sym, ap, subst, arith, inl, inr, ◌⊎◌}
use Rattle.std.specs.Prelude.{Contains, AllPairs}
use Rattle.std.proofs.lemmas.Bool.{cases_lt, cases_Bool, cond-true, cond-false, both_ways, lt-ltb, le-ltb, and_from, and_left, and_right}
use Rattle.std.proofs.lemmas.List.Elements.{Contains-append_left, Contains-append_right, Contains-append_cases}
use Rattle.bg_board.specs.Position.{Position}
use Rattle.bg_board.specs.FromTo.{FromTo}
use Rattle.bg_board.specs.Step.{after_step}
use Rattle.bg_board.specs.declared.players.Player.{Player}
use Rattle.bg_turns.specs.declared.mover_counts.MoverCounts.{MoverCounts}
use Rattle.bg_turns.specs.MoverCounts.{Stands, IsMoverCounts, step_of, can, after, is_off, begin, at_each, one_die, tree, two_dice, pairs}
use Rattle.bg_turns.specs.TurnOrder.{IsGreater}
use Rattle.bg_turns.proofs.Sides.{Stands-after, step_from_can, is_off-iff}
use Rattle.bg_turns.proofs.Lists.Listed.{AllPairs-append, AllPairs-begin, AllPairs-one, StartsAt, at_each-ordered, at_each_contains, begin_contains, contains_at_each, contains_begin, contains_one_die, one_die-ordered, one_die-starts, one_die_contains}
use Rattle.bg_turns.proofs.Lists.OneDie.{IsFull, IsMoverCounts-after, full-off, full_from_one, one_from_full, tree-lists, tree-ordered}

pairs-none : (small large : ℕ) (r : MoverCounts) → pairs small large 0 r ≡ [] ∷ []
unfolding pairs
pairs-none small large r = refl

pairs-off : (small large k : ℕ) (r : MoverCounts) → is_off r ≡ true → pairs small large (suc k) r ≡ [] ∷ []
unfolding pairs
pairs-off small large k r off = cond-true (is_off r) _ _ off

pairs-on : (small large k : ℕ) (r : MoverCounts) → is_off r ≡ false → pairs small large (suc k) r ≡ at_each (two_dice r small large (pairs small large k) (tree large k) (tree small k)) 25
unfolding pairs
pairs-on small large k r on = cond-false (is_off r) _ _ on

pub pairs-end : (small large k : ℕ) (r : MoverCounts) → (k ≡ 0) ⊎ (is_off r ≡ true) → pairs small large k r ≡ [] ∷ []
pairs-end small large zero r h = pairs-none small large r
pairs-end small large (suc k) r (inl none) = absurd (omega arith)
pairs-end small large (suc k) r (inr off) = pairs-off small large k r off

pub pairs-at : (small large k : ℕ) (r : MoverCounts) → k ≢ 0 → is_off r ≡ false → pairs small large k r ≡ at_each (two_dice r small large (pairs small large (k - 1)) (tree large (k - 1)) (tree small (k - 1))) 25
pairs-at small large zero r some on = absurd (some refl)
pairs-at small large (suc k) r some on = let back : suc k - 1 ≡ k = omega arith in rw back (pairs-on small large k r on)

module _ (r : MoverCounts) (small large : ℕ) (both after_small after_large : MoverCounts → List (List FromTo)) (from : ℕ) where
  pub two_dice-both : can r from small ≡ true → can r from large ≡ true → from ≤ small → two_dice r small large both after_small after_large from ≡ begin (step_of from small) (both (after r from (from - small)))
  two_dice-both a b low = cond-true (can r from small && (can r from large && ltb from (small + 1))) _ _ (and_from (can r from small) (can r from large && ltb from (small + 1)) a (and_from (can r from large) (ltb from (small + 1)) b (lt-ltb from (small + 1) (omega arith))))

  pub two_dice-apart : (can r from small ≡ false) ⊎ ((can r from large ≡ false) ⊎ (small < from)) → two_dice r small large both after_small after_large from ≡ one_die r small after_small from ++ one_die r large after_large from
  two_dice-apart h = cond-false (can r from small && (can r from large && ltb from (small + 1))) _ _ (failed h) where
    failed : (can r from small ≡ false) ⊎ ((can r from large ≡ false) ⊎ (small < from)) → (can r from small && (can r from large && ltb from (small + 1))) ≡ false
    failed (inl a) = and_left (can r from small) (can r from large && ltb from (small + 1)) a
    failed (inr (inl b)) = and_right (can r from small) (can r from large && ltb from (small + 1)) (and_left (can r from large) (ltb from (small + 1)) b)
    failed (inr (inr c)) = and_right (can r from small) (can r from large && ltb from (small + 1)) (and_right (can r from large) (ltb from (small + 1)) (le-ltb from (small + 1) (omega arith)))

  -- which of the two it is
  two_dice-cases : ((can r from small ≡ true) × (can r from large ≡ true) × (from ≤ small)) ⊎ ((can r from small ≡ false) ⊎ ((can r from large ≡ false) ⊎ (small < from)))
  two_dice-cases = elim (cases_Bool (can r from small)) [
    | inr a ↦ inr (inl a)
    | inl a ↦ elim (cases_Bool (can r from large)) [
      | inr b ↦ inr (inr (inl b))
      | inl b ↦ elim (cases_lt small from) [
        | inl c ↦ inr (inr (inr c))
        | inr c ↦ inl (a, b, c)
      ]
    ]
  ]

  two_dice-starts : (steps : List FromTo) → Contains (two_dice r small large both after_small after_large from) steps → StartsAt from steps
  two_dice-starts steps h = elim two_dice-cases [
    | inl same ↦
        let e = two_dice-both same.0 same.1 same.2 in
        let c = begin_contains (step_of from small) (both (after r from (from - small))) steps (rw e at h) in
        rw c.2 refl
    | inr apart ↦
        let e = two_dice-apart apart in
        elim (Contains-append_cases (one_die r small after_small from) (one_die r large after_large from) steps (rw e at h)) [
          | inl first ↦ one_die-starts r small after_small from steps first
          | inr second ↦ one_die-starts r large after_large from steps second
        ]
  ]

  two_dice-ordered : small < large → ((q : MoverCounts) → AllPairs IsGreater (both q)) → ((q : MoverCounts) → AllPairs IsGreater (after_small q)) → ((q : MoverCounts) → AllPairs IsGreater (after_large q)) → AllPairs IsGreater (two_dice r small large both after_small after_large from)
  two_dice-ordered less a b c = elim two_dice-cases [
    | inl same ↦ rw (two_dice-both same.0 same.1 same.2) (AllPairs-begin (step_of from small) (both (after r from (from - small))) (a (after r from (from - small))))
    | inr apart ↦
        rw (two_dice-apart apart)
        (AllPairs-append (one_die r small after_small from) (one_die r large after_large from)
        (one_die-ordered r small after_small from b) (one_die-ordered r large after_large from c)
        (λ x y first second.
        let f = one_die_contains r small after_small from x first in
        let g = one_die_contains r large after_large from y second in
        let far : small < from = elim apart [
          | inl fails ↦ absurd (both_ways (can r from small) fails f.1)
          | inr other ↦ elim other [
            | inl fails ↦ absurd (both_ways (can r from large) fails g.1)
            | inr is ↦ is
          ]
        ] in
        rw (f.3, g.3) (inl (inr (refl, omega arith)))))
  ]

pub pairs-ordered : (small large : ℕ) → small < large → (k : ℕ) (r : MoverCounts) → AllPairs IsGreater (pairs small large k r)
pairs-ordered small large less zero r = rw (pairs-none small large r) (AllPairs-one [])
pairs-ordered small large less (suc k) r = elim (cases_Bool (is_off r)) [
  | inl off ↦ rw (pairs-off small large k r off) (AllPairs-one [])
  | inr on ↦
      rw (pairs-on small large k r on)
      (at_each-ordered (two_dice r small large (pairs small large k) (tree large k) (tree small k)) 25
      (λ m. two_dice-ordered r small large (pairs small large k) (tree large k) (tree small k) m less (pairs-ordered small large less k) (tree-ordered large k) (tree-ordered small k))
      (two_dice-starts r small large (pairs small large k) (tree large k) (tree small k)))
]

-- the lists by two dice are those by the one order and by the other
module _ (b : Position) (p : Player) (small large : ℕ) (some : 1 ≤ small) (less : small < large) (k : ℕ)
    (union : (q : MoverCounts) (c : Position) → Stands q c p → IsMoverCounts q → (tail : List FromTo) → Contains (pairs small large k q) tail ↔ (Contains (tree large k q) tail ⊎ Contains (tree small k q) tail))
    (r : MoverCounts) (s : Stands r b p) (is : IsMoverCounts r) where
  abbrev forth_full : List FromTo → Type 0
  forth_full steps = IsFull b p (small ∷ replicate k large) (suc k) steps

  abbrev back_full : List FromTo → Type 0
  back_full steps = IsFull b p (large ∷ replicate k small) (suc k) steps

  small_die : (from : ℕ) → 1 ≤ from → from ≤ 25 → (steps : List FromTo) → Contains (one_die r small (tree large k) from) steps → forth_full steps
  small_die = full_from_one r b p s is small some (replicate k large) k (tree large k) (λ q c t u. tree-lists large (omega arith) k q c p t u)

  large_die : (from : ℕ) → 1 ≤ from → from ≤ 25 → (steps : List FromTo) → Contains (one_die r large (tree small k) from) steps → back_full steps
  large_die = full_from_one r b p s is large (omega arith) (replicate k small) k (tree small k) (λ q c t u. tree-lists small some k q c p t u)

  -- where both bear off, it is the same step
  same_step : (from : ℕ) → from ≤ small → step_of from large ≡ step_of from small
  same_step from low = let e : from - large ≡ from - small = omega arith in ap (λ (t : ℕ). record { from = from; to = t }) e

  same_tree : (from : ℕ) → from ≤ small → (tail : List FromTo) → Contains (tree small k (after r from (from - small))) tail → Contains (tree small k (after r from (from - large))) tail
  same_tree from low tail h = let e : from - large ≡ from - small = omega arith in rw e h

  level_forth : (from : ℕ) → 1 ≤ from → from ≤ 25 → (steps : List FromTo) → Contains (two_dice r small large (pairs small large k) (tree large k) (tree small k) from) steps → forth_full steps ⊎ back_full steps
  level_forth from low high steps h = elim (two_dice-cases r small large (pairs small large k) (tree large k) (tree small k) from) [
    | inl same ↦
        let e = two_dice-both r small large (pairs small large k) (tree large k) (tree small k) from same.0 same.1 same.2 in
        let c = begin_contains (step_of from small) (pairs small large k (after r from (from - small))) steps (rw e at h) in
        let legal = step_from_can r b p s from small low high some same.0 in
        let held : 0 < get_or r.own from 0 = rw s.own legal.may_start.0 in
        elim ((union (after r from (from - small)) (after_step b p (step_of from small)) (Stands-after r b p from (from - small) s (omega arith)) (IsMoverCounts-after r from (from - small) is high (omega arith) held) c.0).0 c.1) [
          | inl by_large ↦ inl (rw c.2 (small_die from low high (step_of from small ∷ c.0) (contains_one_die r small (tree large k) from c.0 same.0 by_large)))
          | inr by_small ↦
              let there = contains_one_die r large (tree small k) from c.0 same.1 (same_tree from same.2 c.0 by_small) in
              let full = large_die from low high (step_of from large ∷ c.0) there in
              let moved = subst (λ (u : FromTo). back_full (u ∷ c.0)) (same_step from same.2) full in
              inr (subst (λ (xs : List FromTo). back_full xs) (sym c.2) moved)
        ]
    | inr apart ↦
        let e = two_dice-apart r small large (pairs small large k) (tree large k) (tree small k) from apart in
        elim (Contains-append_cases (one_die r small (tree large k) from) (one_die r large (tree small k) from) steps (rw e at h)) [
          | inl first ↦ inl (small_die from low high steps first)
          | inr second ↦ inr (large_die from low high steps second)
        ]
  ]

  -- and back, from a point where a step can be played
  level_back : (from : ℕ) → 1 ≤ from → from ≤ 25 → (steps : List FromTo) → Contains (one_die r small (tree large k) from) steps ⊎ Contains (one_die r large (tree small k) from) steps → Contains (two_dice r small large (pairs small large k) (tree large k) (tree small k) from) steps
  level_back from low high steps h = elim (two_dice-cases r small large (pairs small large k) (tree large k) (tree small k) from) [
    | inl same ↦
        let e = two_dice-both r small large (pairs small large k) (tree large k) (tree small k) from same.0 same.1 same.2 in
        let legal = step_from_can r b p s from small low high some same.0 in
        let held : 0 < get_or r.own from 0 = rw s.own legal.may_start.0 in
        let u = union (after r from (from - small)) (after_step b p (step_of from small)) (Stands-after r b p from (from - small) s (omega arith)) (IsMoverCounts-after r from (from - small) is high (omega arith) held) in
        elim h [
          | inl first ↦
              let c = one_die_contains r small (tree large k) from steps first in
              rw (e, c.3) (contains_begin (step_of from small) (pairs small large k (after r from (from - small))) c.0 ((u c.0).1 (inl c.2)))
          | inr second ↦
              let c = one_die_contains r large (tree small k) from steps second in
              let there : Contains (tree small k (after r from (from - small))) c.0 = (let t : from - large ≡ from - small = omega (arith, same.2) in subst (λ (n : ℕ). Contains (tree small k (after r from n)) c.0) t c.2) in
              rw (e, c.3, same_step from same.2) (contains_begin (step_of from small) (pairs small large k (after r from (from - small))) c.0 ((u c.0).1 (inr there)))
        ]
    | inr apart ↦
        rw (two_dice-apart r small large (pairs small large k) (tree large k) (tree small k) from apart)
        (elim h [
          | inl first ↦ Contains-append_left (one_die r small (tree large k) from) (one_die r large (tree small k) from) steps first
          | inr second ↦ Contains-append_right (one_die r small (tree large k) from) (one_die r large (tree small k) from) steps second
        ])
  ]

  on_forth : (steps : List FromTo) → Contains (at_each (two_dice r small large (pairs small large k) (tree large k) (tree small k)) 25) steps → forth_full steps ⊎ back_full steps
  on_forth steps h =
      let m = at_each_contains (two_dice r small large (pairs small large k) (tree large k) (tree small k)) 25 steps h in
      level_forth m.0 m.1 m.2 steps m.3

  on_back : is_off r ≡ false → (steps : List FromTo) → forth_full steps ⊎ back_full steps → Contains (at_each (two_dice r small large (pairs small large k) (tree large k) (tree small k)) 25) steps
  on_back on [] h = absurd (ended h) where
    ended : forth_full [] ⊎ back_full [] → ⊥
    ended (inl (played, inl long)) = omega arith
    ended (inl (played, inr off)) = both_ways (is_off r) on ((is_off-iff r b p s).1 off)
    ended (inr (played, inl long)) = omega arith
    ended (inr (played, inr off)) = both_ways (is_off r) on ((is_off-iff r b p s).1 off)
  on_back on (step ∷ tail) (inl h) =
      let starts = h.0.0.starts in
      let downward = h.0.0.downward in
      contains_at_each (two_dice r small large (pairs small large k) (tree large k) (tree small k)) 25 step.from (step ∷ tail) (omega arith) starts
      (level_back step.from (omega arith) starts (step ∷ tail)
      (inl (one_from_full r b p s is small some (replicate k large) k (tree large k) (λ q c t u. tree-lists large (omega arith) k q c p t u) step tail h)))
  on_back on (step ∷ tail) (inr h) =
      let starts = h.0.0.starts in
      let downward = h.0.0.downward in
      contains_at_each (two_dice r small large (pairs small large k) (tree large k) (tree small k)) 25 step.from (step ∷ tail) (omega arith) starts
      (level_back step.from (omega arith) starts (step ∷ tail)
      (inr (one_from_full r b p s is large (omega arith) (replicate k small) k (tree small k) (λ q c t u. tree-lists small some k q c p t u) step tail h)))

  pub pairs-lists : (steps : List FromTo) → Contains (pairs small large (suc k) r) steps ↔ (forth_full steps ⊎ back_full steps)
  pairs-lists steps = elim (cases_Bool (is_off r)) [
    | inl off ↦
        let one = full-off r b p s is off (small ∷ replicate k large) (suc k) steps in
        let two = full-off r b p s is off (large ∷ replicate k small) (suc k) steps in
        rw (pairs-off small large k r off) (λ h. inl (one.0 h), λ h. elim h [ inl first ↦ one.1 first | inr second ↦ two.1 second ])
    | inr on ↦ rw (pairs-on small large k r on) (on_forth steps, on_back on steps)
  ]
