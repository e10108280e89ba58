-- Which turn is found in a list of the legal ones.
use Rattle.std.specs.Prelude.{◌≡◌, ◌↔◌, ℕ, ◌+◌, ◌<◌, List, length, slice_index_or, AllPairs, Contains}
use Rattle.std.proofs.Common.{refl, sym, ◌∙◌, ap, subst, arith, inl, inr}
use Rattle.std.proofs.lemmas.Bool.{cases_lt}
use Rattle.bg_board.specs.FromTo.{FromTo}
use Rattle.bg_board.specs.Position.{Position}
use Rattle.bg_board.specs.declared.players.Player.{Player}
use Rattle.bg_turns.specs.Turn.{IsLegalTurn}
use Rattle.bg_turns.specs.TurnOrder.{IsGreater}
use Rattle.bg_turns.specs.declared.throws.Dice.{Dice}
use Rattle.bg_mat.specs.ItemFaults.{IsMovementFault}
use Rattle.bg_mat.specs.Turns.{HasHits, HasMovement, IsAsWritten, SameMovement, TellsTurn, steps_of}
use Rattle.bg_mat.specs.declared.faults.MatFault.TheVariants as why
use Rattle.bg_mat.specs.declared.movements.legs.Leg.{Leg}

-- the legs as steps
pub written_turn : (b : Position) (p : Player) (dice : Dice) (legs : List Leg) (turn : List FromTo)
    → turn ≡ steps_of legs → IsAsWritten b p dice legs → TellsTurn b p dice legs turn
written_turn b p dice legs turn e w = record {
  movement = record {
    legal = rw e w.legal;
    moved = rw e (λ point low. refl);
    hits = rw e w.hits;
  };
  chosen = inl e;
}

-- the first such turn of the list is the greatest
pub found_turn : (b : Position) (p : Player) (dice : Dice) (legs : List Leg) (turns : List (List FromTo)) (i : ℕ) (turn : List FromTo)
    → (IsAsWritten b p dice legs → ⊥)
    → ((steps : List FromTo) → Contains turns steps ↔ IsLegalTurn b p dice steps) → AllPairs IsGreater turns
    → ((k : ℕ) (d : List FromTo) → k < i → SameMovement (steps_of legs) (slice_index_or turns k d)
    → HasHits b p legs (slice_index_or turns k d) → ⊥)
    → i < length turns → ((d : List FromTo) → slice_index_or turns i d ≡ turn)
    → SameMovement (steps_of legs) turn → HasHits b p legs turn → TellsTurn b p dice legs turn
found_turn b p dice legs turns i turn unwritten exact greatest before within here moved hits = record {
  movement = record { legal = (exact turn).0 (i, within, here turn); moved = moved; hits = hits };
  chosen = inr (
    unwritten,
    λ other m.
        let at : Contains turns other = (exact other).1 m.legal in
        let k = at.0 in
        elim (cases_lt k i) [
          | inl early ↦ absurd (before k other early (rw at.2 m.moved) (rw at.2 m.hits))
          | inr late ↦ elim (cases_lt i k) [
            | inl later ↦ inr (rw (← here other) (subst (λ (x : List FromTo). IsGreater (slice_index_or turns i other) x) at.2 (greatest i k other later at.1)))
            | inr same ↦ let e : k ≡ i = omega arith in
                inl (sym at.2 ∙ (ap (λ (n : ℕ). slice_index_or turns n other) e ∙ here other))
          ]
        ],
  );
}

-- no such turn is in the list
pub no_turn : (b : Position) (p : Player) (dice : Dice) (legs : List Leg) (turns : List (List FromTo))
    → ((steps : List FromTo) → Contains turns steps ↔ IsLegalTurn b p dice steps)
    → ((k : ℕ) (d : List FromTo) → k < length turns → SameMovement (steps_of legs) (slice_index_or turns k d)
    → HasHits b p legs (slice_index_or turns k d) → ⊥)
    → (turn : List FromTo) → HasMovement b p dice legs turn → ⊥
no_turn b p dice legs turns exact none turn m =
    let at : Contains turns turn = (exact turn).1 m.legal in
    none at.0 turn at.1 (rw at.2 m.moved) (rw at.2 m.hits)

-- nor is one at the next place
pub none_more : (b : Position) (p : Player) (legs : List Leg) (turns : List (List FromTo)) (i : ℕ) (turn : List FromTo)
    → ((k : ℕ) (d : List FromTo) → k < i → SameMovement (steps_of legs) (slice_index_or turns k d)
    → HasHits b p legs (slice_index_or turns k d) → ⊥)
    → ((d : List FromTo) → slice_index_or turns i d ≡ turn)
    → (SameMovement (steps_of legs) turn → HasHits b p legs turn → ⊥)
    → (k : ℕ) (d : List FromTo) → k < i + 1 → SameMovement (steps_of legs) (slice_index_or turns k d)
    → HasHits b p legs (slice_index_or turns k d) → ⊥
none_more b p legs turns i turn before here wrong k d below moved hits =
    elim (cases_lt k i) [
      | inl early ↦ before k d early moved hits
      | inr late ↦ let e : k ≡ i = omega arith in
          let same : slice_index_or turns k d ≡ turn = ap (λ (n : ℕ). slice_index_or turns n d) e ∙ here d in
          wrong (subst (λ (x : List FromTo). SameMovement (steps_of legs) x) same moved)
          (subst (λ (x : List FromTo). HasHits b p legs x) same hits)
    ]

-- a turn of the list has the movement
pub one_moved : (b : Position) (p : Player) (dice : Dice) (legs : List Leg) (turns : List (List FromTo)) (i : ℕ) (turn : List FromTo)
    → ((steps : List FromTo) → Contains turns steps ↔ IsLegalTurn b p dice steps) → i < length turns
    → ((d : List FromTo) → slice_index_or turns i d ≡ turn) → SameMovement (steps_of legs) turn
    → ((other : List FromTo) → HasMovement b p dice legs other → ⊥) → IsMovementFault b p dice legs why.WrongHits
one_moved b p dice legs turns i turn exact within here moved none = ((turn, (exact turn).0 (i, within, here turn), moved), none)

-- none has
pub no_movement : (b : Position) (p : Player) (dice : Dice) (legs : List Leg) (turns : List (List FromTo))
    → ((steps : List FromTo) → Contains turns steps ↔ IsLegalTurn b p dice steps)
    → ((k : ℕ) (d : List FromTo) → k < length turns → SameMovement (steps_of legs) (slice_index_or turns k d) → ⊥)
    → IsMovementFault b p dice legs why.NoSuchTurn
no_movement b p dice legs turns exact none = λ turn legal moved.
    let at : Contains turns turn = (exact turn).1 legal in none at.0 turn at.1 (rw at.2 moved)

-- nor has the one at the next place
pub none_moved : (legs : List Leg) (turns : List (List FromTo)) (i : ℕ) (turn : List FromTo)
    → ((k : ℕ) (d : List FromTo) → k < i → SameMovement (steps_of legs) (slice_index_or turns k d) → ⊥)
    → ((d : List FromTo) → slice_index_or turns i d ≡ turn) → (SameMovement (steps_of legs) turn → ⊥)
    → (k : ℕ) (d : List FromTo) → k < i + 1 → SameMovement (steps_of legs) (slice_index_or turns k d) → ⊥
none_moved legs turns i turn before here wrong k d below moved =
    elim (cases_lt k i) [
      | inl early ↦ before k d early moved
      | inr late ↦ let e : k ≡ i = omega arith in
          let same : slice_index_or turns k d ≡ turn = ap (λ (n : ℕ). slice_index_or turns n d) e ∙ here d in
          wrong (subst (λ (x : List FromTo). SameMovement (steps_of legs) x) same moved)
    ]
