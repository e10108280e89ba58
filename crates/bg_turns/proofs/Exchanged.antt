-- Steps by one die, of which each can be played first: a step takes no other away but itself.
use Rattle.std.proofs.Common.{◌≡◌, ◌≢◌, ℕ, zero, suc, ◌+◌, ◌-◌, ◌<◌, ◌≤◌, true, eqb, List, [], ◌∷◌, length, sum, drop, get_or, replicate, refl, sym, ◌∙◌, ap, subst, arith, inl, inr, add-one, ◌↔◌, if◌then◌else◌}
use Rattle.std.proofs.lemmas.Bool.{cases_eq, cases_lt}
use Rattle.std.proofs.lemmas.Bool.Decides.{nat_tests}
use Rattle.std.proofs.lemmas.Grind.{common_steps}
use Rattle.std.proofs.lemmas.List.{ext_get_or, get_or-drop, get_or_past}
use Rattle.std.proofs.lemmas.List.Sums.{get_or-le-sum_by}
use Rattle.bg_board.specs.Position.{Position}
use Rattle.bg_board.specs.FromTo.{FromTo}
use Rattle.bg_board.specs.Step.{carried, after_step}
use Rattle.bg_board.specs.declared.players.Player.{Player}
use Rattle.bg_board.proofs.Carried.{length-carried, get_or-carried_other}
use Rattle.bg_turns.specs.declared.mover_counts.MoverCounts.{MoverCounts}
use Rattle.bg_turns.specs.MoverCounts.{IsMoverCounts, Stands, step_of, can_by, can, after}
use Rattle.std.proofs.lemmas.Nat.Bits.{bit_at-zero}
use Rattle.bg_turns.specs.InOrder.{IsInOrder, IsMostInOrder}
use Rattle.bg_turns.specs.Masks.{ArePlaces}
use Rattle.bg_turns.proofs.Sides.{can-is, sum-none, Stands-after, step_from_can}
use Rattle.bg_turns.proofs.Lists.OneDie.{IsMoverCounts-after}
use Rattle.bg_turns.proofs.Deepest.{step_is, can_there}

-- n steps by the die can be played
abbrev pub Reaches : ℕ → MoverCounts → ℕ → Type 0
Reaches die r zero = Unit {0}
Reaches die r (suc n) =
    (from : ℕ) × (1 ≤ from) × (from ≤ 25) × (can r from die ≡ true) × Reaches die (after r from (from - die)) n

-- ---- what a step asks
pub record MayStep (r : MoverCounts) (from die : ℕ) : Type 0 where
  pub held : 0 < get_or r.own from 0
  pub enters : 0 < get_or r.own 25 0 → from ≡ 25
  pub free : die < from → get_or r.other (25 - (from - die)) 0 < 2
  pub home : from ≤ die → sum (drop 7 r.own) ≡ 0
  pub highest : from < die → sum (drop (from + 1) r.own) ≡ 0

module _ (here bar other outside above from die : ℕ) (yes : can_by here bar other outside above from die ≡ true) where
  by_held : 0 < here
  by_held = grind (arith, nat_tests)

  by_enters : 0 < bar → from ≡ 25
  by_enters h = grind (arith, nat_tests)

  by_free : die < from → other < 2
  by_free h = grind (arith, nat_tests)

  by_home : from ≤ die → outside ≡ 0
  by_home h = grind (arith, nat_tests)

  by_highest : from < die → above ≡ 0
  by_highest h = grind (arith, nat_tests)

by_all : (here bar other outside above from die : ℕ) → 0 < here → (0 < bar → from ≡ 25) → (die < from → other < 2) → (from ≤ die → outside ≡ 0) → (from < die → above ≡ 0) → can_by here bar other outside above from die ≡ true
by_all here bar other outside above from die a b c d e = grind (arith, nat_tests)

may_step : (r : MoverCounts) (from die : ℕ) → can r from die ≡ true → MayStep r from die
may_step r from die passed =
    let yes = sym (can-is r from die) ∙ passed in
    record {
      held = by_held (get_or r.own from 0) (get_or r.own 25 0) (get_or r.other (25 - (from - die)) 0) (sum (drop 7 r.own)) (sum (drop (from + 1) r.own)) from die yes;
      enters = by_enters (get_or r.own from 0) (get_or r.own 25 0) (get_or r.other (25 - (from - die)) 0) (sum (drop 7 r.own)) (sum (drop (from + 1) r.own)) from die yes;
      free = by_free (get_or r.own from 0) (get_or r.own 25 0) (get_or r.other (25 - (from - die)) 0) (sum (drop 7 r.own)) (sum (drop (from + 1) r.own)) from die yes;
      home = by_home (get_or r.own from 0) (get_or r.own 25 0) (get_or r.other (25 - (from - die)) 0) (sum (drop 7 r.own)) (sum (drop (from + 1) r.own)) from die yes;
      highest = by_highest (get_or r.own from 0) (get_or r.own 25 0) (get_or r.other (25 - (from - die)) 0) (sum (drop 7 r.own)) (sum (drop (from + 1) r.own)) from die yes;
    }

can_step : (r : MoverCounts) (from die : ℕ) → MayStep r from die → can r from die ≡ true
can_step r from die may =
    can-is r from die
    ∙ by_all (get_or r.own from 0) (get_or r.own 25 0) (get_or r.other (25 - (from - die)) 0) (sum (drop 7 r.own)) (sum (drop (from + 1) r.own)) from die
    may.held may.enters may.free may.home may.highest

-- ---- no checker stands from a point on
none_from : (own : List ℕ) (n k : ℕ) → sum (drop n own) ≡ 0 → n ≤ k → get_or own k 0 ≡ 0
none_from own n k none high =
    let back : n + (k - n) ≡ k = omega arith in
    let there : get_or (drop n own) (k - n) 0 ≡ get_or own k 0 = get_or-drop n own (k - n) 0 ∙ ap (λ i. get_or own i 0) back in
    elim (cases_lt (k - n) (length (drop n own))) [
      | inl within ↦ (let few = get_or-le-sum_by (λ x. x) (drop n own) (k - n) 0 within in omega arith)
      | inr past ↦ (let zero_there = get_or_past (drop n own) (k - n) 0 past in omega arith)
    ]

from_none : (own : List ℕ) (n : ℕ) → ((k : ℕ) → n ≤ k → get_or own k 0 ≡ 0) → sum (drop n own) ≡ 0
from_none own n none = sum-none (drop n own) (λ k. get_or-drop n own k 0 ∙ none (n + k) (omega arith))

-- ---- a checker that is carried, by points
at_carried : (own : List ℕ) (from to i : ℕ) → length own ≡ 26 → from ≤ 25 → to < from → get_or (carried own from to) i 0 ≡ (if eqb i from then get_or own i 0 - 1 else (if eqb i to then get_or own i 0 + 1 else get_or own i 0))
at_carried own from to i long high low = elim (cases_eq i from) [
  | inl start ↦ grind (arith, common_steps, nat_tests)
  | inr other ↦ elim (cases_eq i to) [
    | inl landing ↦ grind (arith, common_steps, nat_tests)
    | inr else_where ↦ grind (arith, common_steps, nat_tests)
  ]
]

-- two steps from two points
module _ (r : MoverCounts) (is : IsMoverCounts r) (die : ℕ) (some : 1 ≤ die) (f g : ℕ) (apart : f ≢ g) (f_low : 1 ≤ f) (f_high : f ≤ 25) (g_low : 1 ≤ g) (g_high : g ≤ 25) (first : MayStep r f die) (second : MayStep r g die) where
  same_above : (k : ℕ) → g < k → get_or (carried r.own g (g - die)) k 0 ≡ get_or r.own k 0
  same_above k above = get_or-carried_other r.own g (g - die) k (omega arith) (omega arith)

  -- the first can be played after the second
  pub still_may : MayStep (after r g (g - die)) f die
  still_may = record {
    held = still_held;
    enters = still_enters;
    free = first.free;
    home = λ near. from_none (carried r.own g (g - die)) 7 (λ k high.
        let none = none_from r.own 7 k (first.home near) high in
        let low = low_by 7 (first.home near) in
        same_above k (omega arith) ∙ none);
    highest = λ near. from_none (carried r.own g (g - die)) (f + 1) (λ k high.
        let none = none_from r.own (f + 1) k (first.highest near) high in
        let low = low_by (f + 1) (first.highest near) in
        same_above k (omega arith) ∙ none);
  } where
    low_by : (n : ℕ) → sum (drop n r.own) ≡ 0 → g < n
    low_by n none = elim (cases_lt g n) [
      | inl low ↦ low
      | inr high ↦ (let empty = none_from r.own n g none high in let held = second.held in absurd (omega arith))
    ]

    still_held : 0 < get_or (carried r.own g (g - die)) f 0
    still_held =
        let there = at_carried r.own g (g - die) f is.points g_high (omega arith) in
        let held = first.held in
        elim (cases_eq f (g - die)) [
          | inl landing ↦ grind (arith, nat_tests)
          | inr other ↦ grind (arith, nat_tests)
        ]

    still_enters : 0 < get_or (carried r.own g (g - die)) 25 0 → f ≡ 25
    still_enters on = elim (cases_eq g 25) [
      | inl bar ↦ first.enters (let held = second.held in rw bar at held)
      | inr point ↦ first.enters (let same = same_above 25 (omega arith) in omega arith)
    ]

exchanged_at : (x i f f' g g' : ℕ) → f ≢ g → f' < f → g' < g → (i ≡ f → 0 < x) → (i ≡ g → 0 < x)
    → (y z v w : ℕ) → y ≡ (if eqb i g then x - 1 else (if eqb i g' then x + 1 else x)) → z ≡ (if eqb i f then y - 1 else (if eqb i f' then y + 1 else y))
    → v ≡ (if eqb i f then x - 1 else (if eqb i f' then x + 1 else x)) → w ≡ (if eqb i g then v - 1 else (if eqb i g' then v + 1 else v)) → z ≡ w
exchanged_at x i f f' g g' apart a b c d y z v w p q s t = elim (cases_eq i f) [
  | inl at_f ↦ grind (arith, nat_tests)
  | inr not_f ↦ elim (cases_eq i g) [
    | inl at_g ↦ grind (arith, nat_tests)
    | inr not_g ↦ grind (arith, nat_tests)
  ]
]

exchanged : (r : MoverCounts) (is : IsMoverCounts r) (die : ℕ) (some : 1 ≤ die) (f g : ℕ) (apart : f ≢ g) (f_low : 1 ≤ f) (f_high : f ≤ 25) (g_low : 1 ≤ g) (g_high : g ≤ 25) (first : MayStep r f die) (second : MayStep r g die)
    → after (after r g (g - die)) f (f - die) ≡ after (after r f (f - die)) g (g - die)
exchanged r is die some f g apart f_low f_high g_low g_high first second =
    ap (λ xs. record { own = xs; other = r.other })
    (ext_get_or 0 (carried (carried r.own g (g - die)) f (f - die)) (carried (carried r.own f (f - die)) g (g - die))
    (length-carried (carried r.own g (g - die)) f (f - die) ∙ (length-carried r.own g (g - die)
    ∙ sym (length-carried (carried r.own f (f - die)) g (g - die) ∙ length-carried r.own f (f - die))))
    (λ i within.
    exchanged_at (get_or r.own i 0) i f (f - die) g (g - die) apart (omega arith) (omega arith)
    (λ at. let held = first.held in rw at held) (λ at. let held = second.held in rw at held)
    _ _ _ _
    (at_carried r.own g (g - die) i is.points g_high (omega arith))
    (at_carried (carried r.own g (g - die)) f (f - die) i (length-carried r.own g (g - die) ∙ is.points) f_high (omega arith))
    (at_carried r.own f (f - die) i is.points f_high (omega arith))
    (at_carried (carried r.own f (f - die)) g (g - die) i (length-carried r.own f (f - die) ∙ is.points) g_high (omega arith))))

-- whichever step is played first, as many follow
pub follow_any : (die : ℕ) → 1 ≤ die → (n : ℕ) (r : MoverCounts) → IsMoverCounts r → (f : ℕ) → 1 ≤ f → f ≤ 25 → can r f die ≡ true → Reaches die r (suc n) → Reaches die (after r f (f - die)) n
follow_any die some zero r is f low high passed h = tt
follow_any die some (suc n) r is f low high passed h =
    let g = h.0 in
    elim (cases_eq f h.0) [
      | inl same ↦ subst (λ (k : ℕ). Reaches die (after r k (k - die)) (suc n)) (sym same) h.4
      | inr other ↦
          let first = may_step r f die passed in
          let second = may_step r h.0 die h.3 in
          let still = can_step (after r h.0 (h.0 - die)) f die (still_may r is die some f h.0 other low high h.1 h.2 first second) in
          let still' = can_step (after r f (f - die)) h.0 die (still_may r is die some h.0 f (λ same. other (sym same)) h.1 h.2 low high second first) in
          let more = follow_any die some n (after r h.0 (h.0 - die)) (IsMoverCounts-after r h.0 (h.0 - die) is h.2 (omega arith) second.held) f low high still h.4 in
          (h.0, h.1, h.2, still', subst (λ (q : MoverCounts). Reaches die q n) (exchanged r is die some f h.0 other low high h.1 h.2 first second) more)
    ]

-- ---- the same of lists of steps
pub reaches_fewer : (die n m : ℕ) (r : MoverCounts) → m ≤ n → Reaches die r n → Reaches die r m
reaches_fewer die n zero r few h = tt
reaches_fewer die zero (suc m) r few h = absurd (omega arith)
reaches_fewer die (suc n) (suc m) r few h = (h.0, h.1, h.2, h.3, reaches_fewer die n m (after r h.0 (h.0 - die)) (omega arith) h.4)

reach_steps : (die : ℕ) → 1 ≤ die → (k n : ℕ) → n ≤ k → (r : MoverCounts) (b : Position) (p : Player) → Stands r b p → Reaches die r n → (steps : List FromTo) × IsInOrder b p (replicate k die) steps × (length steps ≡ n)
reach_steps die some k zero few r b p s h = ([], tt, refl)
reach_steps die some zero (suc n) few r b p s h = absurd (omega arith)
reach_steps die some (suc k) (suc n) few r b p s h =
    let legal = step_from_can r b p s h.0 die h.1 h.2 some h.3 in
    let rest = reach_steps die some k n (omega arith) (after r h.0 (h.0 - die)) (after_step b p (step_of h.0 die)) p (Stands-after r b p h.0 (h.0 - die) s (omega arith)) h.4 in
    (step_of h.0 die ∷ rest.0, (legal, rest.1), ap suc rest.2)

steps_reach : (die : ℕ) → 1 ≤ die → (k : ℕ) (steps : List FromTo) (r : MoverCounts) (b : Position) (p : Player) → Stands r b p → IsInOrder b p (replicate k die) steps → Reaches die r (length steps)
steps_reach die some k [] r b p s played = tt
steps_reach die some zero (step ∷ rest) r b p s played = absurd played
steps_reach die some (suc k) (step ∷ rest) r b p s played =
    let legal = played.0 in
    let starts = legal.starts in
    let downward = legal.downward in
    let passed = can_there r b p s die some step legal in
    let same = step_is r b p s die some step legal in
    let tail : IsInOrder (after_step b p (step_of step.from die)) p (replicate k die) rest = subst (λ (u : FromTo). IsInOrder (after_step b p u) p (replicate k die) rest) same played.1 in
    (step.from, omega arith, starts, passed, steps_reach die some k rest (after r step.from (step.from - die)) (after_step b p (step_of step.from die)) p (Stands-after r b p step.from (step.from - die) s (omega arith)) tail)

pub most_by_reach : (die : ℕ) → 1 ≤ die → (k n : ℕ) → n ≤ k → (r : MoverCounts) (b : Position) (p : Player) → Stands r b p → Reaches die r n → ((steps : List FromTo) → IsInOrder b p (replicate k die) steps → Reaches die r (length steps) → length steps ≤ n) → IsMostInOrder b p (replicate k die) n
most_by_reach die some k n few r b p s reached greatest = record {
  reached = reach_steps die some k n few r b p s reached;
  greatest = λ steps played. greatest steps played (steps_reach die some k steps r b p s played);
}

-- ---- the greatest number, by steps that are played one by one
module _ (die : ℕ) (some : 1 ≤ die) (r : MoverCounts) where
  pub follow_where : IsMoverCounts r → (f : ℕ) → 1 ≤ f → f ≤ 25 → can r f die ≡ true → (start : MoverCounts) (most : ℕ)
      → ((n : ℕ) → Reaches die r n ↔ Reaches die start (n + most)) → (n : ℕ) → Reaches die (after r f (f - die)) n ↔ Reaches die start (n + (most + 1))
  follow_where is f low high passed start most follow n =
      let one : suc n + most ≡ n + (most + 1) = (let plus = add-one n in omega arith) in
      let was : Reaches die r (suc n) ↔ Reaches die start (n + (most + 1)) = rw one at (follow (suc n)) in (
        λ h. was.0 (f, low, high, passed, h),
        λ h. follow_any die some n r is f low high passed (was.1 h),
      )

  pub reach_ends : (places : ℕ) → ArePlaces places r die → places ≡ 0 → (start : MoverCounts) (most : ℕ)
      → ((n : ℕ) → Reaches die r n ↔ Reaches die start (n + most)) → most ≤ 4 → (b : Position) (p : Player) → Stands start b p → IsMostInOrder b p (replicate 4 die) most
  reach_ends places are none start most follow few b p s =
      most_by_reach die some 4 most few start b p s reached greatest where
        reached : Reaches die start most
        reached = let none_more : 0 + most ≡ most = omega arith in rw none_more at ((follow 0).0 tt)

        stuck : Reaches die start (1 + most) → ⊥
        stuck h =
            let step = (follow 1).1 h in
            let back : 25 - (25 - step.0) ≡ step.0 = (let low = step.1 in let high = step.2 in omega arith) in
            let on = (are.each (25 - step.0) (let low = step.1 in omega arith)).1 (rw back step.3) in
            let off = bit_at-zero (25 - step.0) in
            let zero_bit = rw none at on in
            omega arith

        greatest : (steps : List FromTo) → IsInOrder b p (replicate 4 die) steps → Reaches die start (length steps) → length steps ≤ most
        greatest steps played there = elim (cases_lt most (length steps)) [
          | inl more ↦ absurd (stuck (reaches_fewer die (length steps) (1 + most) start (omega arith) there))
          | inr few ↦ few
        ]

pub few_steps : (k die : ℕ) (b : Position) (p : Player) (steps : List FromTo) → IsInOrder b p (replicate k die) steps → length steps ≤ k
few_steps k die b p [] played = omega arith
few_steps zero die b p (step ∷ rest) played = absurd played
few_steps (suc k) die b p (step ∷ rest) played = let more = few_steps k die (after_step b p step) p rest played.1 in omega arith
