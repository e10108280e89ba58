-- Turns that are found in a list of the legal ones: the first of which something holds.
use Rattle.std.specs.Prelude.{◌≡◌, ◌⊎◌, ◌↔◌, ℕ, ◌+◌, ◌<◌, Bool, true, false, List, slice_index_or, AllPairs, Contains}
use Rattle.std.proofs.Common.{refl, sym, ◌∙◌, ap, subst, inl, inr, arith}
use Rattle.std.proofs.lemmas.Bool.{cases_lt}
use Rattle.bg_board.specs.FromTo.{FromTo}
use Rattle.bg_board.specs.Position.{Position}
use Rattle.bg_board.specs.declared.players.Player.{Player}
use Rattle.bg_turns.specs.Turn.{IsLegalTurn}
use Rattle.bg_turns.specs.TurnOrder.{IsGreater}
use Rattle.bg_turns.specs.declared.throws.Dice.{Dice}
use Rattle.bg_mat.specs.FirstTurns.{HitsOtherwise, IsFirst, IsNone}
use Rattle.bg_mat.specs.Turns.{HitAlike, IsGreatest, IsOfMovement, IsUnambiguous, SameMovement, is_hit, steps_of}
use Rattle.bg_mat.specs.declared.movements.legs.Leg.{Leg}

-- the list has the legal turns
abbrev pub ListsLegal : Position → Player → Dice → List (List FromTo) → Type 0
ListsLegal b p dice turns = (steps : List FromTo) → Contains turns steps ↔ IsLegalTurn b p dice steps

-- it holds of no turn up to the next place
pub none_further : (Holds : List FromTo → Type 0) (turns : List (List FromTo)) (i : ℕ) (turn : List FromTo)
    → ((k : ℕ) (d : List FromTo) → k < i → Holds (slice_index_or turns k d) → ⊥)
    → ((d : List FromTo) → slice_index_or turns i d ≡ turn) → (Holds turn → ⊥)
    → (k : ℕ) (d : List FromTo) → k < i + 1 → Holds (slice_index_or turns k d) → ⊥
none_further Holds turns i turn before here not k d below h =
    elim (cases_lt k i) [
      | inl early ↦ before k d early h
      | inr late ↦ let e : k ≡ i = omega arith in
          not (subst Holds (ap (λ (n : ℕ). slice_index_or turns n d) e ∙ here d) h)
    ]

-- the first turn of which something holds is legal
pub first_legal : (b : Position) (p : Player) (dice : Dice) (Holds : List FromTo → Type 0) (turns : List (List FromTo)) (turn : List FromTo)
    → ListsLegal b p dice turns → IsFirst Holds turns turn → IsLegalTurn b p dice turn
first_legal b p dice Holds turns turn exact f = (exact turn).0 (f.place, f.within, f.here turn)

-- and the greatest legal one
pub first_greatest : (b : Position) (p : Player) (dice : Dice) (Holds : List FromTo → Type 0) (turns : List (List FromTo)) (turn : List FromTo)
    → ListsLegal b p dice turns → AllPairs IsGreater turns → IsFirst Holds turns turn
    → (other : List FromTo) → IsLegalTurn b p dice other → Holds other → (other ≡ turn) ⊎ IsGreater turn other
first_greatest b p dice Holds turns turn exact greatest f other legal h =
    let at : Contains turns other = (exact other).1 legal in
    let k = at.0 in
    elim (cases_lt k f.place) [
      | inl early ↦ absurd (f.before k other early (rw at.2 h))
      | inr late ↦ elim (cases_lt f.place k) [
        | inl later ↦ inr (rw (← f.here other) (subst (λ (x : List FromTo). IsGreater (slice_index_or turns f.place other) x) at.2 (greatest f.place k other later at.1)))
        | inr same ↦ let e : k ≡ f.place = omega arith in
            inl (sym at.2 ∙ (ap (λ (n : ℕ). slice_index_or turns n other) e ∙ f.here other))
      ]
    ]

pub none_legal : (b : Position) (p : Player) (dice : Dice) (Holds : List FromTo → Type 0) (turns : List (List FromTo))
    → ListsLegal b p dice turns → IsNone Holds turns → (turn : List FromTo) → IsLegalTurn b p dice turn → Holds turn → ⊥
none_legal b p dice Holds turns exact none turn legal h =
    let at : Contains turns turn = (exact turn).1 legal in none at.0 turn at.1 (rw at.2 h)

pub first_is_greatest : (b : Position) (p : Player) (dice : Dice) (legs : List Leg) (turns : List (List FromTo)) (turn : List FromTo)
    → ListsLegal b p dice turns → AllPairs IsGreater turns → IsFirst (SameMovement (steps_of legs)) turns turn
    → IsGreatest b p dice legs turn
first_is_greatest b p dice legs turns turn exact greatest f = record {
  movement = record { legal = first_legal b p dice (SameMovement (steps_of legs)) turns turn exact f; moved = f.holds };
  greatest = λ other h. first_greatest b p dice (SameMovement (steps_of legs)) turns turn exact greatest f other h.legal h.moved;
}

pub none_moves : (b : Position) (p : Player) (dice : Dice) (legs : List Leg) (turns : List (List FromTo))
    → ListsLegal b p dice turns → IsNone (SameMovement (steps_of legs)) turns
    → (turn : List FromTo) → IsOfMovement b p dice legs turn → ⊥
none_moves b p dice legs turns exact none turn h =
    none_legal b p dice (SameMovement (steps_of legs)) turns exact none turn h.legal h.moved

same_or_not : (a b : Bool) → (a ≡ b) ⊎ (a ≡ b → ⊥)
same_or_not true true = inl refl
same_or_not false false = inl refl
same_or_not true false = inr (λ e. absurd (cc (e)))
same_or_not false true = inr (λ e. absurd (cc (e)))

-- turns that do not hit otherwise hit alike
alike_where : (b : Position) (p : Player) (one other : List FromTo) → ((HitAlike b p one other → ⊥) → ⊥) → HitAlike b p one other
alike_where b p one other not point low =
    elim (same_or_not (is_hit b p one point) (is_hit b p other point)) [
      | inl same ↦ same
      | inr differs ↦ absurd (not (λ alike. differs (alike point low)))
    ]

pub unambiguous_found : (b : Position) (p : Player) (dice : Dice) (legs : List Leg) (turns : List (List FromTo)) (one : List FromTo)
    → ListsLegal b p dice turns → AllPairs IsGreater turns → IsFirst (SameMovement (steps_of legs)) turns one
    → IsNone (HitsOtherwise b p (steps_of legs) one) turns → IsUnambiguous b p dice legs one
unambiguous_found b p dice legs turns one exact greatest f none = record {
  greatest = first_is_greatest b p dice legs turns one exact greatest f;
  alike = λ other h. alike_where b p one other (λ differs.
      none_legal b p dice (HitsOtherwise b p (steps_of legs) one) turns exact none other h.legal (h.moved, differs));
}

-- turns that hit otherwise leave none that is unambiguous
pub none_unambiguous : (b : Position) (p : Player) (dice : Dice) (legs : List Leg) (turns : List (List FromTo)) (one other : List FromTo)
    → ListsLegal b p dice turns → IsFirst (SameMovement (steps_of legs)) turns one
    → IsFirst (HitsOtherwise b p (steps_of legs) one) turns other → (turn : List FromTo) → IsUnambiguous b p dice legs turn → ⊥
none_unambiguous b p dice legs turns one other exact f g turn h =
    let first = h.alike one (record { legal = first_legal b p dice (SameMovement (steps_of legs)) turns one exact f; moved = f.holds }) in
    let second = h.alike other (record {
      legal = first_legal b p dice (HitsOtherwise b p (steps_of legs) one) turns other exact g;
      moved = g.holds.0;
    }) in
    g.holds.1 (λ point low. sym (first point low) ∙ second point low)

pub none_moved_alike : (b : Position) (p : Player) (dice : Dice) (legs : List Leg) (turns : List (List FromTo))
    → ListsLegal b p dice turns → IsNone (SameMovement (steps_of legs)) turns
    → (turn : List FromTo) → IsUnambiguous b p dice legs turn → ⊥
none_moved_alike b p dice legs turns exact none turn h = none_moves b p dice legs turns exact none turn h.greatest.movement
