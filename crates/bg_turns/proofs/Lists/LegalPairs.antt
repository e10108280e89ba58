-- The lists that the search finds with two different dice are the legal turns.
use Rattle.std.proofs.Common.{◌≡◌, ◌≢◌, ◌↔◌, ℕ, zero, suc, ◌<◌, ◌≤◌, min, max, List, [], ◌∷◌, ◌++◌, length, get_or, refl, sym, ◌∙◌, ap, arith, inl, inr, ◌⊎◌}
use Rattle.std.specs.Prelude.{Contains}
use Rattle.std.proofs.lemmas.Bool.{cases_lt}
use Rattle.std.proofs.lemmas.List.Elements.{Contains-get_or}
use Rattle.bg_board.specs.Position.{Position, HasAllOff}
use Rattle.bg_board.specs.FromTo.{FromTo}
use Rattle.bg_board.specs.Step.{IsStep}
use Rattle.bg_board.specs.declared.players.Player.{Player}
use Rattle.bg_turns.specs.declared.mover_counts.MoverCounts.{MoverCounts}
use Rattle.bg_turns.specs.declared.throws.Dice.{Dice}
use Rattle.bg_turns.specs.Dice.{dice_list, first_pips, second_pips, larger_die}
use Rattle.bg_turns.specs.MoverCounts.{Stands, IsMoverCounts, tree, pairs, behind}
use Rattle.bg_turns.specs.InOrder.{IsInOrder}
use Rattle.bg_turns.specs.Turn.{IsPlayable, IsMost, IsLegalTurn, UsesLarger, after_steps}
use Rattle.bg_turns.proofs.MostSteps.{in_order_few}
use Rattle.bg_turns.proofs.Orders.{dice_list-two}
use Rattle.bg_turns.proofs.Sides.{none_when_off, is_off-iff}
use Rattle.bg_turns.proofs.Lists.Listed.{nothing, only_empty}
use Rattle.bg_turns.proofs.Lists.OneDie.{IsFull, tree-lists}
use Rattle.bg_turns.proofs.Lists.TwoDice.{pairs-lists, pairs-end}
use Rattle.bg_turns.proofs.Lists.Legal.{at_longest, behind-nothing, contains_empty, either_first, large_first, larger_off, longest_at, one_of_two, small_first, union_one}

-- the turns with two different dice
module _ (b : Position) (p : Player) (dice : Dice) (n : ℕ) (most : IsMost b p (dice_list dice) n) (r : MoverCounts) (s : Stands r b p) (is : IsMoverCounts r)
    (differ : first_pips dice ≢ second_pips dice) (small large : ℕ) (some : 1 ≤ small) (less : small < large) (within : large ≤ 6)
    (which : ((small ≡ first_pips dice) × (large ≡ second_pips dice)) ⊎ ((small ≡ second_pips dice) × (large ≡ first_pips dice))) (larger : larger_die dice ≡ large) where
  playable_small_first : (steps : List FromTo) → IsInOrder b p (small ∷ large ∷ []) steps → IsPlayable b p (dice_list dice) steps
  playable_small_first steps h = rw (dice_list-two dice differ) (small_first b p (first_pips dice) (second_pips dice) small large which steps h)

  playable_large_first : (steps : List FromTo) → IsInOrder b p (large ∷ small ∷ []) steps → IsPlayable b p (dice_list dice) steps
  playable_large_first steps h = rw (dice_list-two dice differ) (large_first b p (first_pips dice) (second_pips dice) small large which steps h)

  orders : (steps : List FromTo) → IsPlayable b p (dice_list dice) steps → IsInOrder b p (small ∷ large ∷ []) steps ⊎ IsInOrder b p (large ∷ small ∷ []) steps
  orders steps h = either_first b p (first_pips dice) (second_pips dice) small large which steps (rw (dice_list-two dice differ) at h)

  -- where no single step can be the longest, any longest list will do
  uses_unless_one : (steps : List FromTo) → length steps ≢ 1 → UsesLarger b p dice steps
  uses_unless_one steps other step one _ _ = absurd (other (ap length one))

  pub legal_pairs : n ≢ 1 → (steps : List FromTo) → Contains (pairs small large n r) steps ↔ IsLegalTurn b p dice steps
  legal_pairs other steps = by_length n refl where
    two_dice_few : n ≤ 2
    two_dice_few = elim (orders most.reached.0 most.reached.1) [
      | inl forth ↦ (let few = in_order_few b p (small ∷ large ∷ []) most.reached.0 forth in let long = most.reached.2 in omega arith)
      | inr back ↦ (let few = in_order_few b p (large ∷ small ∷ []) most.reached.0 back in let long = most.reached.2 in omega arith)
    ]

    full_legal : (IsPlayable b p (dice_list dice) steps × ((length steps ≡ n) ⊎ HasAllOff (after_steps b p steps) p)) → IsLegalTurn b p dice steps
    full_legal h = record {
      playable = h.0;
      complete = elim h.1 [
        | inl long ↦ inr (longest_at b p dice n most steps long, uses_unless_one steps (λ one. other (sym long ∙ one)))
        | inr off ↦ inl off
      ];
    }

    legal_full : IsLegalTurn b p dice steps → ((length steps ≡ n) ⊎ HasAllOff (after_steps b p steps) p)
    legal_full legal = elim legal.complete [
      | inl off ↦ inr off
      | inr longest ↦ inl (at_longest b p dice n most steps legal.playable longest.0)
    ]

    by_length : (m : ℕ) → m ≡ n → Contains (pairs small large n r) steps ↔ IsLegalTurn b p dice steps
    by_length zero e = rw (pairs-end small large n r (inl (sym e))) (
      λ h. let empty = only_empty steps h in full_legal (rw empty tt, inl (rw empty e)),
      λ legal. contains_empty steps (let few = most.greatest steps legal.playable in omega arith),
    )
    by_length (suc zero) e = absurd (other (sym e))
    by_length (suc (suc zero)) e =
        let lists = pairs-lists b p small large some less 1 (union_one p small large some less) r s is steps in
        rw (← e) (
          λ h. elim (lists.0 h) [
            | inl forth ↦ full_legal (playable_small_first steps forth.0, rw e at forth.1)
            | inr back ↦ full_legal (playable_large_first steps back.0, rw e at back.1)
          ],
          λ legal. lists.1 (elim (orders steps legal.playable) [
            | inl forth ↦ inl (forth, rw (← e) at (legal_full legal))
            | inr back ↦ inr (back, rw (← e) at (legal_full legal))
          ]),
        )
    by_length (suc (suc (suc m))) e = absurd (let few = two_dice_few in omega arith)

  -- where one step alone can be played, by the larger die if there is one
  module _ (one : n ≡ 1) where
    steps_few : (steps : List FromTo) → IsLegalTurn b p dice steps → length steps ≤ 1
    steps_few steps legal = let few = most.greatest steps legal.playable in omega arith

    from_large : (steps : List FromTo) → IsFull b p (large ∷ []) 1 steps → IsLegalTurn b p dice steps
    from_large steps full = record {
      playable = playable_large_first steps (one_of_two b p large small steps full.0);
      complete = elim full.1 [
        | inl long ↦ inr (longest_at b p dice n most steps (omega arith), uses)
        | inr off ↦ inl off
      ];
    } where
      uses : UsesLarger b p dice steps
      uses step is _ _ = rw larger (rw is at full.0).0

    to_large : (other : FromTo) → IsStep b p other large → (steps : List FromTo) → IsLegalTurn b p dice steps → IsFull b p (large ∷ []) 1 steps
    to_large other can_other [] legal = elim legal.complete [
      | inl off ↦ (tt, inr off)
      | inr longest ↦ absurd (let long = at_longest b p dice n most [] legal.playable longest.0 in omega arith)
    ]
    to_large other can_other (step ∷ []) legal = elim legal.complete [
      | inl off ↦ elim (orders (step ∷ []) legal.playable) [
        | inl forth ↦ ((larger_off r b p step small large s is less within forth.0 off, tt), inr off)
        | inr back ↦ ((back.0, tt), inr off)
      ]
      | inr rest ↦ (let by = rest.1 step refl differ (other, rw larger can_other) in ((rw larger at by, tt), inl refl))
    ]
    to_large other can_other (step ∷ more ∷ rest) legal = absurd (let few = steps_few (step ∷ more ∷ rest) legal in omega arith)

    -- with a step to be played, not all checkers are off
    not_off : (steps : List FromTo) → IsPlayable b p (dice_list dice) steps → length steps ≡ 1 → HasAllOff b p → ⊥
    not_off [] played long off = omega arith
    not_off (step ∷ rest) played long off =
        let legal = played.2 in
        let none = none_when_off r is ((is_off-iff r b p s).1 off) step.from (let d = legal.downward in omega arith) in
        let held : 0 < get_or r.own step.from 0 = rw s.own legal.may_start.0 in
        omega arith

    can_large : (steps : List FromTo) → IsFull b p (large ∷ []) 1 steps → (other : FromTo) × IsStep b p other large
    can_large [] full = elim full.1 [
      | inl long ↦ absurd (omega arith)
      | inr off ↦ absurd (not_off most.reached.0 most.reached.1 (most.reached.2 ∙ one) off)
    ]
    can_large (step ∷ rest) full = (step, full.0.0)

    pub legal_by_large : (found : List FromTo) → Contains (tree large 1 r) found → (steps : List FromTo) → Contains (tree large 1 r) steps ↔ IsLegalTurn b p dice steps
    legal_by_large found there steps =
        let lists = tree-lists large (omega arith) 1 r b p s is in
        let other = can_large found ((lists found).0 there) in
        (λ h. from_large steps ((lists steps).0 h), λ legal. (lists steps).1 (to_large other.0 other.1 steps legal))

    module _ (none : tree large 1 r ≡ []) where
      no_large : (step : FromTo) → IsStep b p step large → ⊥
      no_large step can_step =
          let there = (tree-lists large (omega arith) 1 r b p s is (step ∷ [])).1 ((can_step, tt), inl refl) in
          nothing (step ∷ []) (rw none at there)

      to_small : (steps : List FromTo) → IsLegalTurn b p dice steps → IsFull b p (small ∷ []) 1 steps
      to_small [] legal = elim legal.complete [
        | inl off ↦ (tt, inr off)
        | inr longest ↦ absurd (let long = at_longest b p dice n most [] legal.playable longest.0 in omega arith)
      ]
      to_small (step ∷ []) legal = elim (orders (step ∷ []) legal.playable) [
        | inl forth ↦ ((forth.0, tt), inl refl)
        | inr back ↦ absurd (no_large step back.0)
      ]
      to_small (step ∷ more ∷ rest) legal = absurd (let few = steps_few (step ∷ more ∷ rest) legal in omega arith)

      from_small : (steps : List FromTo) → IsFull b p (small ∷ []) 1 steps → IsLegalTurn b p dice steps
      from_small steps full = record {
        playable = playable_small_first steps (one_of_two b p small large steps full.0);
        complete = elim full.1 [
          | inl long ↦ inr (longest_at b p dice n most steps (omega arith), uses)
          | inr off ↦ inl off
        ];
      } where
        uses : UsesLarger b p dice steps
        uses step is _ found = absurd (no_large found.0 (rw larger at found.1))

      pub legal_by_small : (steps : List FromTo) → Contains (tree small 1 r) steps ↔ IsLegalTurn b p dice steps
      legal_by_small steps =
          let lists = tree-lists small some 1 r b p s is steps in
          (λ h. from_small steps (lists.0 h), λ legal. lists.1 (to_small steps legal))

-- a list that began empty
pub from_start : (start lists items : List (List FromTo)) → start ≡ [] → items ≡ start ++ behind [] lists → items ≡ lists
from_start start lists items none is = is ∙ (ap (λ xs. xs ++ behind [] lists) none ∙ behind-nothing lists)

pub which_die : (d e small large : ℕ) → small ≡ min d e → large ≡ max d e → d ≢ e → ((small ≡ d) × (large ≡ e)) ⊎ ((small ≡ e) × (large ≡ d))
which_die d e small large is_small is_large differ = elim (cases_lt d e) [
  | inl less ↦ inl (omega arith, omega arith)
  | inr more ↦ inr (omega arith, omega arith)
]

pub max_same : (d e : ℕ) → d ≡ e → max d e ≡ d
max_same d e same = omega arith

pub smaller_less : (d e small large : ℕ) → small ≡ min d e → large ≡ max d e → d ≢ e → small < large
smaller_less d e small large is_small is_large differ = omega arith

pub first_there : (lists items : List (List FromTo)) → items ≡ lists → length items ≢ 0 → Contains lists (get_or lists 0 [])
first_there lists items is some = let long = ap length is in Contains-get_or lists 0 [] (omega arith)

pub none_there : (lists items : List (List FromTo)) → items ≡ lists → length items ≡ 0 → lists ≡ []
none_there [] items is none = refl
none_there (x ∷ xs) items is none = absurd (let long = ap length is in omega arith)
