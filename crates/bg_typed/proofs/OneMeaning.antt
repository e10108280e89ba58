-- What is typed means one turn at most.
use Rattle.std.specs.Prelude.{◌≡◌, ◌⊎◌, ℕ, ◌≤◌, false, List, length}
use Rattle.std.proofs.Common.{refl, sym, ◌∙◌, ap, subst, inl, inr, arith}
use Rattle.bg_board.specs.FromTo.{FromTo}
use Rattle.bg_board.specs.Position.{Position}
use Rattle.bg_board.specs.declared.players.Player.{Player}
use Rattle.bg_turns.specs.Turn.{IsLegalTurn}
use Rattle.bg_turns.specs.TurnOrder.{IsGreater}
use Rattle.bg_turns.specs.declared.throws.Dice.{Dice}
use Rattle.bg_mat.specs.Turns.{HasHits, HasMovement, IsAsWritten, IsGreatest, TellsTurn, steps_of}
use Rattle.bg_mat.specs.declared.movements.legs.Leg.{Leg}
use Rattle.bg_mat.proofs.OfReading.CellLemmas.{movement_same}
use Rattle.bg_mat.proofs.OfReading.RowLemmas.{no_word_ends}
use Rattle.bg_typed.specs.Laws.{TypedTurnsAreLegal, TypedTurnsMeanOne}
use Rattle.bg_typed.specs.Meanings.{MeansLegs, MeansTurn, MeansUnmarked, has_marks}
use Rattle.bg_typed.specs.TypedFaults.{IsMeaningFault, IsTypedFault}
use Rattle.bg_typed.specs.TypedWords.{TellsTyped, TellsWords}
use Rattle.bg_typed.specs.declared.faults.TypedFault.{TypedFault}
use Rattle.bg_typed.specs.declared.faults.TypedFault.TheVariants as typed_fault
use Rattle.bg_typed.proofs.Orders.{neither_less}
use Rattle.bg_typed.proofs.ReadWords.{move_same}

words_same : (text : List ℕ) (legs more : List Leg) → TellsWords text legs → TellsWords text more → legs ≡ more
words_same text legs more (words, rest, begins, blank, tells) (others, behind, begun, empty, told) =
    (movement_same text words others rest behind legs more begins tells (no_word_ends rest blank) begun told (no_word_ends behind empty)).0

-- what is typed tells its legs in one way
pub legs_same : (typed : List ℕ) (legs more : List Leg) → TellsTyped typed legs → TellsTyped typed more → legs ≡ more
legs_same typed legs more (movement, skips, tells) (other, passes, told) =
    let same = move_same _ other movement passes skips in
    words_same movement legs more tells (subst (λ (t : List ℕ). TellsWords t more) same told)

-- why a match file tells the turn by the legs
abbrev Chosen : Position → Player → Dice → List Leg → List FromTo → Type 0
Chosen b p dice legs turn =
    (turn ≡ steps_of legs) ⊎ ((IsAsWritten b p dice legs → ⊥)
    × ((other : List FromTo) → HasMovement b p dice legs other → (other ≡ turn) ⊎ IsGreater turn other))

tells_one : (b : Position) (p : Player) (dice : Dice) (legs : List Leg) (turn other : List FromTo) → TellsTurn b p dice legs turn
    → TellsTurn b p dice legs other → other ≡ turn
tells_one b p dice legs turn other h k = at h.chosen k.chosen where
  as_written : (t : List FromTo) → TellsTurn b p dice legs t → t ≡ steps_of legs → IsLegalTurn b p dice (steps_of legs) × HasHits b p legs (steps_of legs)
  as_written t h e = (
    subst (λ (x : List FromTo). IsLegalTurn b p dice x) e h.movement.legal,
    subst (λ (x : List FromTo). HasHits b p legs x) e h.movement.hits,
  )

  at : Chosen b p dice legs turn → Chosen b p dice legs other → other ≡ turn
  at (inl e) (inl f) = f ∙ sym e
  at (inl e) (inr (unwritten, greatest)) = let w = as_written turn h e in absurd (unwritten (record { legal = w.0; hits = w.1 }))
  at (inr (unwritten, greatest)) (inl f) = let w = as_written other k f in absurd (unwritten (record { legal = w.0; hits = w.1 }))
  at (inr (unwritten, greatest)) (inr (not, most)) = neither_less turn other (greatest other k.movement) (most turn h.movement)

greatest_one : (b : Position) (p : Player) (dice : Dice) (legs : List Leg) (turn other : List FromTo) → IsGreatest b p dice legs turn
    → IsGreatest b p dice legs other → other ≡ turn
greatest_one b p dice legs turn other h k = neither_less turn other (h.greatest other k.movement) (k.greatest turn h.movement)

unmarked_one : (b : Position) (p : Player) (dice : Dice) (legs : List Leg) (turn other : List FromTo) → MeansUnmarked b p dice legs turn
    → MeansUnmarked b p dice legs other → other ≡ turn
unmarked_one b p dice legs turn other (inl (e, legal)) (inl (f, good)) = f ∙ sym e
unmarked_one b p dice legs turn other (inl (e, legal)) (inr (unwritten, h)) =
    absurd (unwritten (subst (λ (x : List FromTo). IsLegalTurn b p dice x) e legal))
unmarked_one b p dice legs turn other (inr (unwritten, h)) (inl (f, good)) =
    absurd (unwritten (subst (λ (x : List FromTo). IsLegalTurn b p dice x) f good))
unmarked_one b p dice legs turn other (inr (unwritten, h)) (inr (not, k)) =
    greatest_one b p dice legs turn other h.greatest k.greatest

legs_one : (b : Position) (p : Player) (dice : Dice) (legs : List Leg) (turn other : List FromTo) → MeansLegs b p dice legs turn
    → MeansLegs b p dice legs other → other ≡ turn
legs_one b p dice legs turn other (inl (none, h)) (inl (empty, k)) = h.only other k.legal
legs_one b p dice legs turn other (inl (none, h)) (inr (inl (some, marks, k))) = absurd (some none)
legs_one b p dice legs turn other (inl (none, h)) (inr (inr (some, marks, k))) = absurd (some none)
legs_one b p dice legs turn other (inr (inl (some, marks, h))) (inl (none, k)) = absurd (some none)
legs_one b p dice legs turn other (inr (inr (some, marks, h))) (inl (none, k)) = absurd (some none)
legs_one b p dice legs turn other (inr (inl (some, marks, h))) (inr (inl (any, more, k))) = tells_one b p dice legs turn other h k
legs_one b p dice legs turn other (inr (inl (some, marks, h))) (inr (inr (any, more, k))) = absurd (cc (marks, more))
legs_one b p dice legs turn other (inr (inr (some, marks, h))) (inr (inl (any, more, k))) = absurd (cc (marks, more))
legs_one b p dice legs turn other (inr (inr (some, marks, h))) (inr (inr (any, more, k))) = unmarked_one b p dice legs turn other h k

-- legs that mean a turn are not refused
no_fault : (b : Position) (p : Player) (dice : Dice) (legs : List Leg) (turn : List FromTo) (fault : TypedFault)
    → MeansLegs b p dice legs turn → IsMeaningFault b p dice legs fault → fault ≡ typed_fault.Memory
no_fault b p dice legs turn typed_fault.Memory h k = refl
no_fault b p dice legs turn typed_fault.NotAMovement h k = absurd k
no_fault b p dice legs turn typed_fault.TooManySteps h k = absurd k
no_fault b p dice legs turn typed_fault.SeveralTurns (inl (none, h)) (empty, k) = absurd (k turn h)
no_fault b p dice legs turn typed_fault.SeveralTurns (inr (inl (some, marks, h))) (empty, k) = absurd (some empty)
no_fault b p dice legs turn typed_fault.SeveralTurns (inr (inr (some, marks, h))) (empty, k) = absurd (some empty)
no_fault b p dice legs turn typed_fault.NoSuchTurn (inl (none, h)) (some, k) = absurd (some none)
no_fault b p dice legs turn typed_fault.NoSuchTurn (inr (inl (any, marks, h))) (some, k) =
    absurd (k turn (record { legal = h.movement.legal; moved = h.movement.moved }))
no_fault b p dice legs turn typed_fault.NoSuchTurn (inr (inr (any, marks, inl (e, legal)))) (some, k) =
    absurd (k turn (record { legal = legal; moved = rw e (λ point low. refl) }))
no_fault b p dice legs turn typed_fault.NoSuchTurn (inr (inr (any, marks, inr (unwritten, h)))) (some, k) =
    absurd (k turn h.greatest.movement)
no_fault b p dice legs turn typed_fault.WrongHits (inl (none, h)) (marks, some, k) =
    let unmarked : has_marks legs ≡ false = rw none refl in absurd (cc (marks, unmarked))
no_fault b p dice legs turn typed_fault.WrongHits (inr (inl (any, more, h))) (marks, some, k) = absurd (k turn h.movement)
no_fault b p dice legs turn typed_fault.WrongHits (inr (inr (any, more, h))) (marks, some, k) = absurd (cc (marks, more))
no_fault b p dice legs turn (typed_fault.Ambiguous one other) (inl (none, h)) (some, marks, unwritten, k) = absurd (some none)
no_fault b p dice legs turn (typed_fault.Ambiguous one other) (inr (inl (any, more, h))) (some, marks, unwritten, k) = absurd (cc (marks, more))
no_fault b p dice legs turn (typed_fault.Ambiguous one other) (inr (inr (any, more, inl (e, legal)))) (some, marks, unwritten, k) =
    absurd (unwritten (subst (λ (x : List FromTo). IsLegalTurn b p dice x) e legal))
no_fault b p dice legs turn (typed_fault.Ambiguous one other) (inr (inr (any, more, inr (not, h)))) (some, marks, unwritten, k) =
    let first = h.alike one k.first.movement in
    let second = h.alike other k.second in
    absurd (k.otherwise (λ point low. sym (first point low) ∙ second point low))

-- the same, of legs that are told in one way
told_fault : (b : Position) (p : Player) (dice : Dice) (typed : List ℕ) (legs : List Leg) (turn : List FromTo) (fault : TypedFault)
    → TellsTyped typed legs → MeansLegs b p dice legs turn
    → (more : List Leg) × TellsTyped typed more × (length more ≤ 4) × IsMeaningFault b p dice more fault → fault ≡ typed_fault.Memory
told_fault b p dice typed legs turn fault tells means (more, told, few, k) =
    no_fault b p dice legs turn fault means
    (subst (λ (xs : List Leg). IsMeaningFault b p dice xs fault) (legs_same typed more legs told tells) k)

typed_fault_none : (b : Position) (p : Player) (dice : Dice) (typed : List ℕ) (turn : List FromTo) (fault : TypedFault)
    → MeansTurn b p dice typed turn → IsTypedFault b p dice typed fault → fault ≡ typed_fault.Memory
typed_fault_none b p dice typed turn typed_fault.Memory h k = refl
typed_fault_none b p dice typed turn typed_fault.NotAMovement (legs, tells, few, means) k = absurd (k legs tells)
typed_fault_none b p dice typed turn typed_fault.TooManySteps (legs, tells, few, means) (more, told, many) =
    let same : length more ≡ length legs = ap (λ (xs : List Leg). length xs) (legs_same typed more legs told tells) in
    absurd (omega (arith, same, many, few))
typed_fault_none b p dice typed turn typed_fault.NoSuchTurn (legs, tells, few, means) k =
    told_fault b p dice typed legs turn typed_fault.NoSuchTurn tells means k
typed_fault_none b p dice typed turn typed_fault.WrongHits (legs, tells, few, means) k =
    told_fault b p dice typed legs turn typed_fault.WrongHits tells means k
typed_fault_none b p dice typed turn (typed_fault.Ambiguous one other) (legs, tells, few, means) k =
    told_fault b p dice typed legs turn (typed_fault.Ambiguous one other) tells means k
typed_fault_none b p dice typed turn typed_fault.SeveralTurns (legs, tells, few, means) k =
    told_fault b p dice typed legs turn typed_fault.SeveralTurns tells means k

pub means_one : TypedTurnsMeanOne
means_one b p dice typed turn means = (turns_same means, λ fault h. typed_fault_none b p dice typed turn fault means h) where
  turns_same : MeansTurn b p dice typed turn → (other : List FromTo) → MeansTurn b p dice typed other → other ≡ turn
  turns_same (legs, tells, few, h) other (more, told, small, k) =
      legs_one b p dice legs turn other h
      (subst (λ (xs : List Leg). MeansLegs b p dice xs other) (legs_same typed more legs told tells) k)

legal_legs : (b : Position) (p : Player) (dice : Dice) (legs : List Leg) (turn : List FromTo) → MeansLegs b p dice legs turn
    → IsLegalTurn b p dice turn
legal_legs b p dice legs turn (inl (none, h)) = h.legal
legal_legs b p dice legs turn (inr (inl (some, marks, h))) = h.movement.legal
legal_legs b p dice legs turn (inr (inr (some, marks, inl (e, legal)))) = legal
legal_legs b p dice legs turn (inr (inr (some, marks, inr (unwritten, h)))) = h.greatest.movement.legal

pub means_legal : TypedTurnsAreLegal
means_legal b p dice typed turn (legs, tells, few, h) = legal_legs b p dice legs turn h
