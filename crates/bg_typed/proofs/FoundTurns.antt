-- Turns that are found in a list of the legal ones.
use Rattle.std.specs.Prelude.{◌≤◌, ◌≡◌, ◌≢◌, ◌↔◌, ℕ, zero, suc, Bool, false, List, [], ◌∷◌, length, slice_index_or, AllPairs, Contains, Result, Ok, Err, IsOk}
use Rattle.std.specs.Result.{is_ok}
use Rattle.std.proofs.Common.{refl, sym, ◌∙◌, subst, arith}
use Rattle.bg_board.specs.FromTo.{FromTo}
use Rattle.bg_board.specs.Position.{Position}
use Rattle.bg_board.specs.declared.players.Player.{Player}
use Rattle.bg_turns.specs.Turn.{IsLegalTurn}
use Rattle.bg_turns.specs.TurnOrder.{IsGreater}
use Rattle.bg_turns.specs.declared.throws.Dice.{Dice}
use Rattle.bg_mat.specs.FirstTurns.{HitsOtherwise, IsFirst}
use Rattle.bg_mat.specs.Turns.{SameMovement, steps_of}
use Rattle.bg_mat.specs.declared.movements.legs.Leg.{Leg}
use Rattle.bg_mat.proofs.OfReading.FoundTurns.{ListsLegal, first_greatest, first_is_greatest, first_legal}
use Rattle.bg_typed.specs.Meanings.{IsOnly}
use Rattle.bg_typed.specs.TypedFaults.{AreTwo, IsMeaningFault, IsTypedFault}
use Rattle.bg_typed.specs.TypedWords.{TellsTyped}
use Rattle.bg_typed.specs.declared.faults.TypedFault.{TypedFault}
use Rattle.bg_typed.specs.declared.faults.TypedFault.TheVariants as typed_fault
use Rattle.bg_typed.proofs.Orders.{not_both}

pub two_found : (b : Position) (p : Player) (dice : Dice) (legs : List Leg) (turns : List (List FromTo)) (one other : List FromTo)
    → ListsLegal b p dice turns → AllPairs IsGreater turns → IsFirst (SameMovement (steps_of legs)) turns one
    → IsFirst (HitsOtherwise b p (steps_of legs) one) turns other → AreTwo b p dice legs one other
two_found b p dice legs turns one other exact greatest f g = record {
  first = first_is_greatest b p dice legs turns one exact greatest f;
  second = record {
    legal = first_legal b p dice (HitsOtherwise b p (steps_of legs) one) turns other exact g;
    moved = g.holds.0;
  };
  otherwise = g.holds.1;
  greatest = λ third h differs.
      first_greatest b p dice (HitsOtherwise b p (steps_of legs) one) turns other exact greatest g third h.legal (h.moved, differs);
}

-- the only turn of the list is the only legal one
pub only_found : (b : Position) (p : Player) (dice : Dice) (turns : List (List FromTo)) (turn : List FromTo) → ListsLegal b p dice turns
    → length turns ≡ 1 → turn ≡ slice_index_or turns 0 turn → IsOnly b p dice turn
only_found b p dice [] turn exact one is = absurd (omega (arith, one))
only_found b p dice (first ∷ []) turn exact one is = record {
  legal = subst (λ (x : List FromTo). IsLegalTurn b p dice x) (sym is) ((exact first).0 (0, omega arith, refl));
  only = λ other legal. one_of other ((exact other).1 legal) ∙ sym is;
} where
  one_of : (other : List FromTo) → Contains (first ∷ []) other → other ≡ first
  one_of other (zero, below, at) = sym at
  one_of other (suc k, below, at) = absurd (omega (arith, below))
only_found b p dice (first ∷ second ∷ rest) turn exact one is = absurd (omega (arith, one))

-- a list of another length has no only one
pub none_only : (b : Position) (p : Player) (dice : Dice) (turns : List (List FromTo)) → ListsLegal b p dice turns
    → AllPairs IsGreater turns → length turns ≢ 1 → (turn : List FromTo) → IsOnly b p dice turn → ⊥
none_only b p dice [] exact greatest not turn h = let at = (exact turn).1 h.legal in let l = at.1 in omega (arith, l)
none_only b p dice (one ∷ []) exact greatest not turn h = not refl
none_only b p dice (one ∷ other ∷ rest) exact greatest not turn h =
    let first : one ≡ turn = h.only one ((exact one).0 (0, omega arith, refl)) in
    let second : other ≡ turn = h.only other ((exact other).0 (1, omega arith, refl)) in
    let same : one ≡ other = first ∙ sym second in
    let above : IsGreater one other = greatest 0 1 one (omega arith) (omega arith) in
    let itself : IsGreater one one = subst (λ (x : List FromTo). IsGreater one x) (sym same) above in
    not_both one one itself itself

-- a turn that the judge refuses is not legal
pub refused_by : {A E P : Type 0} (judged : Result A E) (ok : Bool) → IsOk judged ↔ P → ok ≡ is_ok judged → ok ≡ false → P → ⊥
refused_by (Ok x) ok iff e f p = absurd (cc (e, f))
refused_by (Err x) ok iff e f p = absurd (cc (iff.1 p))

-- legs that mean no turn are a refusal of what tells them
pub meaning_refused : (b : Position) (p : Player) (dice : Dice) (typed : List ℕ) (legs : List Leg) (fault : TypedFault)
    → TellsTyped typed legs → length legs ≤ 4 → IsMeaningFault b p dice legs fault → IsTypedFault b p dice typed fault
meaning_refused b p dice typed legs typed_fault.NotAMovement tells few h = absurd h
meaning_refused b p dice typed legs typed_fault.TooManySteps tells few h = absurd h
meaning_refused b p dice typed legs typed_fault.NoSuchTurn tells few h = (legs, tells, few, h)
meaning_refused b p dice typed legs typed_fault.WrongHits tells few h = (legs, tells, few, h)
meaning_refused b p dice typed legs (typed_fault.Ambiguous one other) tells few h = (legs, tells, few, h)
meaning_refused b p dice typed legs typed_fault.SeveralTurns tells few h = (legs, tells, few, h)
meaning_refused b p dice typed legs typed_fault.Memory tells few h = tt
