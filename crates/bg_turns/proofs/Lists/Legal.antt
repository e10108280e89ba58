-- The lists that the search finds are the legal turns: with equal dice, and what two dice share.
use Rattle.std.proofs.Common.{◌≡◌, ◌↔◌, ℕ, zero, suc, ◌+◌, ◌<◌, ◌≤◌, List, [], ◌∷◌, length, drop, get_or, replicate, sum, refl, sym, ◌∙◌, ap, arith, inl, inr, ◌⊎◌}
use Rattle.std.specs.Prelude.{Contains}
use Rattle.std.proofs.lemmas.Bool.{cases_eq}
use Rattle.std.proofs.lemmas.List.{get_or-drop, length-replicate}
use Rattle.std.proofs.lemmas.Grind.{common_steps}
use Rattle.bg_board.specs.Position.{Position, HasAllOff}
use Rattle.bg_board.specs.FromTo.{FromTo}
use Rattle.bg_board.specs.Step.{IsStep, after_step, carried}
use Rattle.bg_board.specs.declared.players.Player.{Player}
use Rattle.bg_board.proofs.Carried.{get_or-carried_other}
use Rattle.bg_turns.specs.declared.mover_counts.MoverCounts.{MoverCounts}
use Rattle.bg_turns.specs.declared.throws.Dice.{Dice}
use Rattle.bg_turns.specs.Dice.{dice_list, first_pips, second_pips}
use Rattle.bg_turns.specs.MoverCounts.{Stands, IsMoverCounts, after, tree, pairs, behind}
use Rattle.bg_turns.specs.InOrder.{IsInOrder}
use Rattle.bg_turns.specs.Turn.{IsPlayable, IsLongest, IsMost, IsLegalTurn}
use Rattle.bg_turns.proofs.MostSteps.{in_order_few}
use Rattle.bg_turns.proofs.Orders.{playable_in_order, playable_swapped, in_either_order, in_only_order, dice_list-double}
use Rattle.bg_turns.proofs.Sides.{Stands-after, none_when_off, is_off-iff, sum-none}
use Rattle.bg_turns.proofs.Lists.OneDie.{IsFull, IsMoverCounts-after, tree-lists, tree-end}
use Rattle.bg_turns.proofs.Lists.TwoDice.{pairs-lists, pairs-end}

pub behind-nothing : (lists : List (List FromTo)) → behind [] lists ≡ lists
behind-nothing [] = refl
behind-nothing (x ∷ xs) = ap (λ ys. x ∷ ys) (behind-nothing xs)

-- of equal dice as many are needed as there are steps
in_order_count : (b : Position) (p : Player) (d m n : ℕ) (steps : List FromTo) → IsInOrder b p (replicate m d) steps → length steps ≤ n → IsInOrder b p (replicate n d) steps
in_order_count b p d m n [] h few = tt
in_order_count b p d zero n (step ∷ rest) h few = absurd h
in_order_count b p d (suc m) zero (step ∷ rest) h few = absurd (omega arith)
in_order_count b p d (suc m) (suc n) (step ∷ rest) h few = (h.0, in_order_count (after_step b p step) p d m n rest h.1 (omega arith))

module _ (b : Position) (p : Player) (dice : Dice) (n : ℕ) (most : IsMost b p (dice_list dice) n) where
  -- a list of the greatest length is longest
  pub longest_at : (steps : List FromTo) → length steps ≡ n → IsLongest b p (dice_list dice) (length steps)
  longest_at steps long other played = let few = most.greatest other played in omega arith

  -- a longest list has the greatest length
  pub at_longest : (steps : List FromTo) → IsPlayable b p (dice_list dice) steps → IsLongest b p (dice_list dice) (length steps) → length steps ≡ n
  at_longest steps played longest =
      let few = most.greatest steps played in
      let many = longest most.reached.0 most.reached.1 in
      let is = most.reached.2 in
      omega arith

  module _ (r : MoverCounts) (s : Stands r b p) (is : IsMoverCounts r) where
    pub legal_double : first_pips dice ≡ second_pips dice → n ≤ 4 → (die : ℕ) → 1 ≤ die → die ≡ first_pips dice → (steps : List FromTo) → Contains (tree die n r) steps ↔ IsLegalTurn b p dice steps
    legal_double same within die some is_die steps = (
      λ h.
          let full = rw is_die at ((tree-lists die some n r b p s is steps).0 h) in
          let few = in_order_few b p (replicate n (first_pips dice)) steps full.0 in
          let count : length steps ≤ n = rw length-replicate at few in
          record {
            playable = rw (dice_list-double dice same) (playable_in_order b p (replicate 4 (first_pips dice)) steps (in_order_count b p (first_pips dice) n 4 steps full.0 (omega arith)));
            complete = elim full.1 [
              | inl long ↦ inr (longest_at steps long, λ step one differ. absurd (differ same))
              | inr off ↦ inl off
            ];
          },
      λ legal.
          let playable : IsPlayable b p (replicate 4 (first_pips dice)) steps = rw (dice_list-double dice same) at legal.playable in
          let few = most.greatest steps legal.playable in
          let full : IsFull b p (replicate n (first_pips dice)) n steps = (
            in_order_count b p (first_pips dice) 4 n steps (in_only_order 4 b p (first_pips dice) steps playable) few,
            elim legal.complete [
              | inl off ↦ inr off
              | inr longest ↦ inl (at_longest steps legal.playable longest.0)
            ],
          ) in
          (tree-lists die some n r b p s is steps).1 (rw is_die full),
    )

-- two different dice, the smaller and the larger
module _ (b : Position) (p : Player) (d e small large : ℕ) (which : ((small ≡ d) × (large ≡ e)) ⊎ ((small ≡ e) × (large ≡ d))) where
  pub small_first : (steps : List FromTo) → IsInOrder b p (small ∷ large ∷ []) steps → IsPlayable b p (d ∷ e ∷ []) steps
  small_first steps h = elim which [
    | inl w ↦ playable_in_order b p (d ∷ e ∷ []) steps (rw (w.0, w.1) at h)
    | inr w ↦ playable_swapped b p d e steps (rw (w.0, w.1) at h)
  ]

  pub large_first : (steps : List FromTo) → IsInOrder b p (large ∷ small ∷ []) steps → IsPlayable b p (d ∷ e ∷ []) steps
  large_first steps h = elim which [
    | inl w ↦ playable_swapped b p d e steps (rw (w.0, w.1) at h)
    | inr w ↦ playable_in_order b p (d ∷ e ∷ []) steps (rw (w.0, w.1) at h)
  ]

  pub either_first : (steps : List FromTo) → IsPlayable b p (d ∷ e ∷ []) steps → IsInOrder b p (small ∷ large ∷ []) steps ⊎ IsInOrder b p (large ∷ small ∷ []) steps
  either_first steps h = elim which [
    | inl w ↦ rw (w.0, w.1) (in_either_order b p d e steps h)
    | inr w ↦ elim (in_either_order b p d e steps h) [
      | inl forth ↦ inr (rw (w.0, w.1) forth)
      | inr back ↦ inl (rw (w.0, w.1) back)
    ]
  ]

pub one_of_two : (b : Position) (p : Player) (d e : ℕ) (steps : List FromTo) → IsInOrder b p (d ∷ []) steps → IsInOrder b p (d ∷ e ∷ []) steps
one_of_two b p d e [] h = tt
one_of_two b p d e (step ∷ []) h = (h.0, tt)
one_of_two b p d e (step ∷ more ∷ rest) h = absurd h.1

only_one : (b : Position) (p : Player) (d e : ℕ) (steps : List FromTo) → IsInOrder b p (d ∷ e ∷ []) steps → length steps ≤ 1 → IsInOrder b p (d ∷ []) steps
only_one b p d e [] h few = tt
only_one b p d e (step ∷ []) h few = (h.0, tt)
only_one b p d e (step ∷ more ∷ rest) h few = absurd (omega arith)

-- the lists of one step by either die
pub union_one : (p : Player) (small large : ℕ) → 1 ≤ small → small < large → (q : MoverCounts) (c : Position) → Stands q c p → IsMoverCounts q → (tail : List FromTo) → Contains (pairs small large 1 q) tail ↔ (Contains (tree large 1 q) tail ⊎ Contains (tree small 1 q) tail)
union_one p small large some less q c s is tail =
    let both = pairs-lists c p small large some less 0 (λ u v t w x.
    rw (pairs-end small large 0 u (inl refl), tree-end large 0 u (inl refl), tree-end small 0 u (inl refl)) (λ h. inl h, λ h. elim h [ inl a ↦ a | inr b ↦ b ])) q s is tail in
    let by_small = tree-lists small some 1 q c p s is tail in
    let by_large = tree-lists large (omega arith) 1 q c p s is tail in (
      λ h. elim (both.0 h) [ inl first ↦ inr (by_small.1 first) | inr second ↦ inl (by_large.1 second) ],
      λ h. both.1 (elim h [ inl first ↦ inr (by_large.0 first) | inr second ↦ inl (by_small.0 second) ]),
    )

carried_there : (own : List ℕ) (from to : ℕ) → length own ≡ 26 → from ≤ 25 → to < from → 0 < get_or (carried own from to) to 0
carried_there own from to long starts downward = grind (arith, common_steps)

pub contains_empty : (steps : List FromTo) → length steps ≤ 0 → Contains ([] ∷ []) steps
contains_empty [] few = (0, omega arith, refl)
contains_empty (step ∷ rest) few = absurd (omega arith)

-- a step that bears off the last checker by the smaller die is one by the larger die too
pub larger_off : (r : MoverCounts) (b : Position) (p : Player) (step : FromTo) (small large : ℕ) → Stands r b p → IsMoverCounts r → small < large → large ≤ 6 → IsStep b p step small → HasAllOff (after_step b p step) p → IsStep b p step large
larger_off r b p step small large s is less dice legal off =
    let starts = legal.starts in
    let downward = legal.downward in
    let held : 0 < get_or r.own step.from 0 = rw s.own legal.may_start.0 in
    let s' = Stands-after r b p step.from step.to s (omega arith) in
    let is' = IsMoverCounts-after r step.from step.to is starts (omega arith) held in
    let gone = none_when_off (after r step.from step.to) is' ((is_off-iff (after r step.from step.to) (after_step b p step) p s').1 off) in
    let borne : step.to ≡ 0 = landed r.own step.from step.to s.points starts downward held gone in
    let landing = legal.landing in
    let above : (k : ℕ) → step.from < k → get_or r.own k 0 ≡ 0 = λ k high. sym (get_or-carried_other r.own step.from step.to k (omega arith) (omega arith)) ∙ gone k (omega arith) in
    let sums : (m : ℕ) → step.from < m → sum (drop m r.own) ≡ 0 = λ m high. sum-none (drop m r.own) (λ k. get_or-drop m r.own k 0 ∙ above (m + k) (omega arith)) in
    record {
      starts = legal.starts;
      downward = legal.downward;
      may_start = legal.may_start;
      landing = omega arith;
      unblocked = λ on. absurd (omega arith);
      home = legal.home;
      highest = λ _ _. rw s.own at (sums (step.from + 1) (omega arith));
    } where
      landed : (own : List ℕ) (from to : ℕ) → length own ≡ 26 → from ≤ 25 → to < from → 0 < get_or own from 0 → ((k : ℕ) → 1 ≤ k → get_or (carried own from to) k 0 ≡ 0) → to ≡ 0
      landed own from to long starts downward held gone = elim (cases_eq to 0) [
        | inl same ↦ same
        | inr other ↦
            let none = gone to (omega arith) in
            let one = carried_there own from to long starts downward in
            absurd (omega arith)
      ]
