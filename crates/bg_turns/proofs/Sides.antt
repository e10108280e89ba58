-- What a search within one turn needs of a position.
use Rattle.std.proofs.Common.{◌≡◌, ◌≢◌, ◌↔◌, ℕ, zero, suc, ◌+◌, ◌-◌, ◌<◌, ◌≤◌, true, false, ◌&&◌, ◌||◌, ltb, leb, eqb, List, [], ◌∷◌, length, sum, drop, get_or, refl, sym, ◌∙◌, ap, arith, inl, inr, ◌⊎◌}
use Rattle.std.proofs.lemmas.Bool.{cases_eq, cases_lt, eq-eqb}
use Rattle.std.proofs.lemmas.Bool.Decides.{nat_tests}
use Rattle.std.proofs.lemmas.List.{get_or-drop, length-drop, get_or_past}
use Rattle.std.proofs.lemmas.List.Sums.{get_or-le-sum_by, sum_by-cons}
use Rattle.bg_board.specs.Position.{Position, IsPosition, checkers, opponent, HasAllOff}
use Rattle.bg_board.specs.FromTo.{FromTo}
use Rattle.bg_board.specs.Step.{IsStep, after_step, carried, hit_by}
use Rattle.bg_board.specs.declared.players.Player.{Player}
use Rattle.bg_board.specs.declared.players.Player.TheVariants.{X, O}
use Rattle.bg_board.proofs.Carried.{length-carried, hit_by-landing, hit_by-other, length-hit_by}
use Rattle.bg_turns.specs.declared.mover_counts.MoverCounts.{MoverCounts}
use Rattle.bg_turns.specs.MoverCounts.{IsMoverCounts, IsHighest, step_of, can_by, can, after, is_off, Stands}

-- the sum of zeros
pub sum-none : (xs : List ℕ) → ((k : ℕ) → get_or xs k 0 ≡ 0) → sum xs ≡ 0
sum-none [] none = refl
sum-none (x ∷ xs) none =
    let rest = sum-none xs (λ k. none (suc k)) in
    let first : x ≡ 0 = none 0 in
    let parts = sum_by-cons (λ y. y) x xs in
    omega arith

-- how many stand above a point, by the highest point
module _ (own : List ℕ) (highest : ℕ) (h : IsHighest own highest) where
  pub none_above_highest : (n : ℕ) → highest < n → sum (drop n own) ≡ 0
  none_above_highest n above = sum-none (drop n own) (λ k. get_or-drop n own k 0 ∙ h.none_above (n + k) (omega arith))

  pub some_above : (n : ℕ) → length own ≡ 26 → 0 < highest → n ≤ highest → 0 < sum (drop n own)
  some_above n long some below =
      let held = h.held some in
      let within = h.within in
      let back : n + (highest - n) ≡ highest = omega arith in
      let place : get_or (drop n own) (highest - n) 0 ≡ get_or own highest 0 = get_or-drop n own (highest - n) 0 ∙ ap (λ k. get_or own k 0) back in
      let few = get_or-le-sum_by (λ x. x) (drop n own) (highest - n) 0 (simp length-drop (omega arith)) in
      omega arith

-- no checker stands above the highest point
pub below_highest : (own : List ℕ) (highest from : ℕ) → IsHighest own highest → 0 < get_or own from 0 → from ≤ highest
below_highest own highest from h held = elim (cases_lt highest from) [
  | inl above ↦ (let none = h.none_above from above in absurd (omega arith))
  | inr below ↦ below
]

pub can-is : (r : MoverCounts) (from die : ℕ) → can r from die ≡ can_by (get_or r.own from 0) (get_or r.own 25 0) (get_or r.other (25 - (from - die)) 0) (sum (drop 7 r.own)) (sum (drop (from + 1) r.own)) from die
unfolding can
can-is r from die = refl

by_empty : (here bar other outside above from die : ℕ) → here ≡ 0 → can_by here bar other outside above from die ≡ false
by_empty here bar other outside above from die none = grind (arith, nat_tests)

by_bar : (here bar other outside above from die : ℕ) → 0 < bar → from ≢ 25 → can_by here bar other outside above from die ≡ false
by_bar here bar other outside above from die some low = grind (arith, nat_tests)

by_point : (here bar other outside above from die : ℕ) → 0 < here → (0 < bar → from ≡ 25) → die < from → can_by here bar other outside above from die ≡ ltb other 2
by_point here bar other outside above from die some enters far = grind (arith, nat_tests)

by_off : (here bar other outside above from die highest : ℕ) → 0 < here → (0 < bar → from ≡ 25) → from ≤ die → (highest < 7 → outside ≡ 0) → (7 ≤ highest → 0 < outside) → (highest < from + 1 → above ≡ 0) → (from + 1 ≤ highest → 0 < above) → from ≤ highest → can_by here bar other outside above from die ≡ (leb highest 6 && (eqb from die || eqb from highest))
by_off here bar other outside above from die highest some enters near a b c d low = grind (arith, nat_tests)

module _ (r : MoverCounts) (from die : ℕ) where
  pub can-empty : get_or r.own from 0 ≡ 0 → can r from die ≡ false
  can-empty none =
      can-is r from die ∙ by_empty (get_or r.own from 0) (get_or r.own 25 0) (get_or r.other (25 - (from - die)) 0) (sum (drop 7 r.own)) (sum (drop (from + 1) r.own)) from die none

  pub can-bar : 0 < get_or r.own 25 0 → from ≢ 25 → can r from die ≡ false
  can-bar some low =
      can-is r from die ∙ by_bar (get_or r.own from 0) (get_or r.own 25 0) (get_or r.other (25 - (from - die)) 0) (sum (drop 7 r.own)) (sum (drop (from + 1) r.own)) from die some low

  pub can-point : 0 < get_or r.own from 0 → (0 < get_or r.own 25 0 → from ≡ 25) → die < from → can r from die ≡ ltb (get_or r.other (25 - (from - die)) 0) 2
  can-point some enters far =
      can-is r from die ∙ by_point (get_or r.own from 0) (get_or r.own 25 0) (get_or r.other (25 - (from - die)) 0) (sum (drop 7 r.own)) (sum (drop (from + 1) r.own)) from die some enters far

  module _ (highest : ℕ) (long : length r.own ≡ 26) (h : IsHighest r.own highest) where
    -- where one of the two tests of the bar is passed
    pub enters_there : ((highest ≡ 25) × (from ≡ 25)) ⊎ (highest ≡ 25 → ⊥) → 0 < get_or r.own 25 0 → from ≡ 25
    enters_there (inl both) some = both.1
    enters_there (inr other) some =
        let within = h.within in
        let none = h.none_above 25 (omega arith) in
        absurd (omega arith)

    pub can-bear_off : 0 < get_or r.own from 0 → (0 < get_or r.own 25 0 → from ≡ 25) → from ≤ die → from ≤ highest → 1 ≤ from → can r from die ≡ (leb highest 6 && (eqb from die || eqb from highest))
    can-bear_off some enters near low one =
        can-is r from die
        ∙ by_off (get_or r.own from 0) (get_or r.own 25 0) (get_or r.other (25 - (from - die)) 0) (sum (drop 7 r.own)) (sum (drop (from + 1) r.own)) from die highest some enters near
        (none_above_highest r.own highest h 7)
        (some_above r.own highest h 7 long (omega arith))
        (none_above_highest r.own highest h (from + 1))
        (some_above r.own highest h (from + 1) long (omega arith))
        low

by_yes : (here bar other outside above from die : ℕ) → can_by here bar other outside above from die ≡ true → (0 < here) × ((0 < bar → from ≡ 25) × ((die < from → other ≤ 1) × ((from ≤ die → outside ≡ 0) × (from < die → above ≡ 0))))
by_yes here bar other outside above from die passed = grind (arith, nat_tests)

pub held_from_can : (r : MoverCounts) (from die : ℕ) → can r from die ≡ true → 0 < get_or r.own from 0
held_from_can r from die passed =
    (by_yes (get_or r.own from 0) (get_or r.own 25 0) (get_or r.other (25 - (from - die)) 0) (sum (drop 7 r.own)) (sum (drop (from + 1) r.own)) from die (sym (can-is r from die) ∙ passed)).0

by_all : (here bar other outside above from die : ℕ) → 0 < here → (0 < bar → from ≡ 25) → (die < from → other ≤ 1) → (from ≤ die → outside ≡ 0) → (from < die → above ≡ 0) → can_by here bar other outside above from die ≡ true
by_all here bar other outside above from die a b c d e = grind (arith, nat_tests)

module _ (r : MoverCounts) (b : Position) (p : Player) (s : Stands r b p) (from die : ℕ) (low : 1 ≤ from) (high : from ≤ 25) (some : 1 ≤ die) where
  pub step_from_can : can r from die ≡ true → IsStep b p (step_of from die) die
  step_from_can passed =
      let parts = by_yes (get_or r.own from 0) (get_or r.own 25 0) (get_or r.other (25 - (from - die)) 0) (sum (drop 7 r.own)) (sum (drop (from + 1) r.own)) from die (sym (can-is r from die) ∙ passed) in
      record {
        starts = high;
        downward = omega arith;
        may_start = (rw s.own at parts.0, rw s.own at parts.1.0);
        landing = refl;
        unblocked = λ on. (s.held (25 - (from - die)) (omega arith) (omega arith)).0 (parts.1.1.0 (omega arith));
        home = λ off. rw s.own at (parts.1.1.1.0 (omega arith));
        highest = λ off less. rw s.own at (parts.1.1.1.1 less);
      }

  pub can_from_step : IsStep b p (step_of from die) die → can r from die ≡ true
  can_from_step is =
      can-is r from die
      ∙ by_all (get_or r.own from 0) (get_or r.own 25 0) (get_or r.other (25 - (from - die)) 0) (sum (drop 7 r.own)) (sum (drop (from + 1) r.own)) from die
      (rw s.own is.may_start.0)
      (rw s.own is.may_start.1)
      (λ far. (s.held (25 - (from - die)) (omega arith) (omega arith)).1 (is.unblocked (omega arith)))
      (λ near. rw s.own (is.home (omega arith)))
      (λ near. rw s.own (is.highest (omega arith) near))

-- whether the other holds a point stays in a hit
hit_stays : (counts : List ℕ) (landing : ℕ) → get_or counts (25 - landing) 0 ≢ 1 → hit_by counts landing ≡ counts
hit_stays counts landing other = grind (arith, nat_tests)

hit_few : (counts : List ℕ) (landing q : ℕ) → length counts ≡ 26 → landing ≤ 24 → 1 ≤ q → q ≤ 24 → (get_or (hit_by counts landing) q 0 ≤ 1) ↔ (get_or counts q 0 ≤ 1)
hit_few counts landing q long low one within = elim (cases_eq q (25 - landing)) [
  | inl same ↦ elim (cases_eq (get_or counts (25 - landing) 0) 1) [
    | inl single ↦
        let gone = hit_by-landing counts landing long (omega arith) (omega arith) (omega arith) in
        rw same (λ _. omega arith, λ _. omega arith)
    | inr more ↦ (let is = hit_stays counts landing more in rw is (λ h. h, λ h. h))
  ]
  | inr other ↦ (let is = hit_by-other counts landing long q other (omega arith) in rw is (λ h. h, λ h. h))
]

-- after a step the mover's counts stand for the position after it
checkers_after : (b : Position) (p : Player) (step : FromTo) → checkers (after_step b p step) p ≡ carried (checkers b p) step.from step.to
checkers_after b X step = refl
checkers_after b O step = refl

checkers_hit : (b : Position) (p : Player) (step : FromTo) → checkers (after_step b p step) (opponent p) ≡ hit_by (checkers b (opponent p)) step.to
checkers_hit b X step = refl
checkers_hit b O step = refl

pub Stands-after : (r : MoverCounts) (b : Position) (p : Player) (from to : ℕ) → Stands r b p → to ≤ 24 → Stands (after r from to) (after_step b p (record { from = from; to = to })) p
Stands-after r b p from to s low =
    let step : FromTo = record { from = from; to = to } in
    let few : (q : ℕ) → 1 ≤ q → q ≤ 24 → (get_or (hit_by (checkers b (opponent p)) to) q 0 ≤ 1) ↔ (get_or (checkers b (opponent p)) q 0 ≤ 1) = λ q one within. hit_few (checkers b (opponent p)) to q s.points_other low one within in
    record {
      own = rw (checkers_after b p (record { from = from; to = to }), s.own) refl;
      held = λ q one within. rw (checkers_hit b p (record { from = from; to = to })) (λ h. (few q one within).1 ((s.held q one within).0 h), λ h. (s.held q one within).1 ((few q one within).0 h));
      points = length-carried r.own from to ∙ s.points;
      points_other = rw (checkers_hit b p (record { from = from; to = to })) (length-hit_by (checkers b (opponent p)) to s.points_other);
    }

-- at the beginning
pub Stands-of : (r : MoverCounts) (b : Position) (p : Player) → r.own ≡ checkers b p → r.other ≡ checkers b (opponent p) → IsPosition b → Stands r b p
Stands-of r b X own other is = record { own = own; held = λ q one within. rw other (λ h. h, λ h. h); points = ap length own ∙ is.x_points; points_other = is.o_points }
Stands-of r b O own other is = record { own = own; held = λ q one within. rw other (λ h. h, λ h. h); points = ap length own ∙ is.o_points; points_other = is.x_points }

-- the player's side of a position
abbrev pub side_of : Position → Player → MoverCounts
side_of b p = record { own = checkers b p; other = checkers b (opponent p) }

pub IsMoverCounts-of : (b : Position) (p : Player) → IsPosition b → IsMoverCounts (side_of b p)
IsMoverCounts-of b X is = record { points = is.x_points; fifteen = is.x_fifteen }
IsMoverCounts-of b O is = record { points = is.o_points; fifteen = is.o_fifteen }

-- with all checkers off no step can be played
pub none_when_off : (r : MoverCounts) → IsMoverCounts r → is_off r ≡ true → (from : ℕ) → 1 ≤ from → get_or r.own from 0 ≡ 0
unfolding is_off
none_when_off r is off from some =
    none_beside r.own from some is.fifteen (grind (arith, nat_tests)) where
      none_beside : (own : List ℕ) (k : ℕ) → 1 ≤ k → sum own ≡ 15 → get_or own 0 0 ≡ 15 → get_or own k 0 ≡ 0
      none_beside [] k some fifteen all = refl
      none_beside (x ∷ xs) zero some fifteen all = absurd (omega arith)
      none_beside (x ∷ xs) (suc k) some fifteen all = elim (cases_lt k (length xs)) [
        | inl within ↦
            let few = get_or-le-sum_by (λ y. y) xs k 0 within in
            let parts = sum_by-cons (λ y. y) x xs in
            omega arith
        | inr past ↦ get_or_past xs k 0 past
      ]

-- with no checker on a point or the bar, all are off
pub off_when_none : (r : MoverCounts) → IsMoverCounts r → ((k : ℕ) → 1 ≤ k → get_or r.own k 0 ≡ 0) → is_off r ≡ true
unfolding is_off
off_when_none r is none = eq-eqb (get_or r.own 0 0) 15 (all_there r.own is.points is.fifteen none) where
  all_there : (own : List ℕ) → length own ≡ 26 → sum own ≡ 15 → ((k : ℕ) → 1 ≤ k → get_or own k 0 ≡ 0) → get_or own 0 0 ≡ 15
  all_there [] long fifteen none = absurd (omega arith)
  all_there (x ∷ xs) long fifteen none =
      let rest = sum-none xs (λ k. none (suc k) (omega arith)) in
      let parts = sum_by-cons (λ y. y) x xs in
      omega arith

pub is_off-iff : (r : MoverCounts) (b : Position) (p : Player) → Stands r b p → (is_off r ≡ true) ↔ HasAllOff b p
unfolding is_off
is_off-iff r b p s = rw s.own (λ h. grind (arith, nat_tests), λ h. grind (arith, nat_tests))
