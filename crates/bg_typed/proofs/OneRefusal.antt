-- What is typed is refused for one reason at most.
use Rattle.std.specs.Prelude.{◌≡◌, ◌≢◌, ℕ, ◌<◌, ◌≤◌, true, false, List, [], length}
use Rattle.std.proofs.Common.{refl, sym, ◌∙◌, ap, subst, arith}
use Rattle.bg_board.specs.FromTo.{FromTo}
use Rattle.bg_board.specs.Position.{Position}
use Rattle.bg_board.specs.declared.players.Player.{Player}
use Rattle.bg_turns.specs.declared.throws.Dice.{Dice}
use Rattle.bg_mat.specs.declared.movements.legs.Leg.{Leg}
use Rattle.bg_typed.specs.Laws.{TypedFaultsDiffer}
use Rattle.bg_mat.specs.Turns.{HitAlike}
use Rattle.bg_typed.specs.Meanings.{has_marks}
use Rattle.bg_typed.specs.TypedFaults.{AreTwo, IsMeaningFault, IsTypedFault}
use Rattle.bg_typed.specs.TypedWords.{TellsTyped}
use Rattle.bg_typed.specs.declared.faults.TypedFault.{TypedFault}
use Rattle.bg_typed.specs.declared.faults.TypedFault.TheVariants as typed_fault
use Rattle.bg_typed.proofs.OneMeaning.{legs_same}
use Rattle.bg_typed.proofs.Orders.{neither_less}

none_marked : (legs : List Leg) → legs ≡ [] → has_marks legs ≡ true → ⊥
none_marked legs none marks = let unmarked : has_marks legs ≡ false = rw none refl in absurd (cc (marks, unmarked))

-- the two turns that hit otherwise
two_same : (b : Position) (p : Player) (dice : Dice) (legs : List Leg) (one other first second : List FromTo)
    → AreTwo b p dice legs one other → AreTwo b p dice legs first second
    → typed_fault.Ambiguous one other ≡ typed_fault.Ambiguous first second
two_same b p dice legs one other first second h k =
    let same : first ≡ one = neither_less one first (h.first.greatest first k.first.movement) (k.first.greatest one h.first.movement) in
    let others : second ≡ other =
    neither_less other second
    (h.greatest second k.second (subst (λ (x : List FromTo). HitAlike b p x second → ⊥) same k.otherwise))
    (k.greatest other h.second (subst (λ (x : List FromTo). HitAlike b p x other → ⊥) (sym same) h.otherwise)) in
    cc (same, others)

-- legs mean no turn for one reason
meaning_faults : (b : Position) (p : Player) (dice : Dice) (legs : List Leg) (fault other : TypedFault) → IsMeaningFault b p dice legs fault
    → IsMeaningFault b p dice legs other → fault ≢ typed_fault.Memory → other ≢ typed_fault.Memory → fault ≡ other
meaning_faults b p dice legs typed_fault.Memory other h k unlike unmet = absurd (unlike refl)
meaning_faults b p dice legs fault typed_fault.Memory h k unlike unmet = absurd (unmet refl)
meaning_faults b p dice legs typed_fault.NotAMovement other h k unlike unmet = absurd h
meaning_faults b p dice legs typed_fault.TooManySteps other h k unlike unmet = absurd h
meaning_faults b p dice legs fault typed_fault.NotAMovement h k unlike unmet = absurd k
meaning_faults b p dice legs fault typed_fault.TooManySteps h k unlike unmet = absurd k
meaning_faults b p dice legs typed_fault.NoSuchTurn typed_fault.NoSuchTurn h k unlike unmet = refl
meaning_faults b p dice legs typed_fault.NoSuchTurn typed_fault.WrongHits (some, none) (marks, (turn, is), k) unlike unmet = absurd (none turn is)
meaning_faults b p dice legs typed_fault.NoSuchTurn (typed_fault.Ambiguous one two) (some, none) (any, marks, unwritten, k) unlike unmet =
    absurd (none one k.first.movement)
meaning_faults b p dice legs typed_fault.NoSuchTurn typed_fault.SeveralTurns (some, none) (empty, k) unlike unmet = absurd (some empty)
meaning_faults b p dice legs typed_fault.WrongHits typed_fault.NoSuchTurn (marks, (turn, is), h) (some, none) unlike unmet = absurd (none turn is)
meaning_faults b p dice legs typed_fault.WrongHits typed_fault.WrongHits h k unlike unmet = refl
meaning_faults b p dice legs typed_fault.WrongHits (typed_fault.Ambiguous one two) (marks, is, h) (any, unmarked, unwritten, k) unlike unmet =
    absurd (cc (marks, unmarked))
meaning_faults b p dice legs typed_fault.WrongHits typed_fault.SeveralTurns (marks, is, h) (empty, k) unlike unmet = absurd (none_marked legs empty marks)
meaning_faults b p dice legs (typed_fault.Ambiguous one two) typed_fault.NoSuchTurn (any, marks, unwritten, h) (some, none) unlike unmet =
    absurd (none one h.first.movement)
meaning_faults b p dice legs (typed_fault.Ambiguous one two) typed_fault.WrongHits (any, unmarked, unwritten, h) (marks, is, k) unlike unmet =
    absurd (cc (marks, unmarked))
meaning_faults b p dice legs (typed_fault.Ambiguous one two) (typed_fault.Ambiguous first second) (any, marks, unwritten, h) (some, more, not_so, k) unlike unmet =
    two_same b p dice legs one two first second h k
meaning_faults b p dice legs (typed_fault.Ambiguous one two) typed_fault.SeveralTurns (any, marks, unwritten, h) (empty, k) unlike unmet = absurd (any empty)
meaning_faults b p dice legs typed_fault.SeveralTurns typed_fault.NoSuchTurn (empty, h) (some, none) unlike unmet = absurd (some empty)
meaning_faults b p dice legs typed_fault.SeveralTurns typed_fault.WrongHits (empty, h) (marks, is, k) unlike unmet = absurd (none_marked legs empty marks)
meaning_faults b p dice legs typed_fault.SeveralTurns (typed_fault.Ambiguous one two) (empty, h) (any, marks, unwritten, k) unlike unmet = absurd (any empty)
meaning_faults b p dice legs typed_fault.SeveralTurns typed_fault.SeveralTurns h k unlike unmet = refl

-- what a refusal says of the legs that are told: there are none, more than four, or some that mean
-- no turn
data Why (b : Position) (p : Player) (dice : Dice) (typed : List ℕ) (fault : TypedFault) : Type 0 where
  Nothing : fault ≡ typed_fault.NotAMovement → ((legs : List Leg) → TellsTyped typed legs → ⊥) → Why b p dice typed fault
  Many : fault ≡ typed_fault.TooManySteps → (legs : List Leg) → TellsTyped typed legs → 4 < length legs → Why b p dice typed fault
  Meaning : (legs : List Leg) → TellsTyped typed legs → length legs ≤ 4 → IsMeaningFault b p dice legs fault → Why b p dice typed fault

why_of : (b : Position) (p : Player) (dice : Dice) (typed : List ℕ) (fault : TypedFault) → IsTypedFault b p dice typed fault
    → fault ≢ typed_fault.Memory → Why b p dice typed fault
why_of b p dice typed typed_fault.Memory h unlike = absurd (unlike refl)
why_of b p dice typed typed_fault.NotAMovement h unlike = Nothing refl h
why_of b p dice typed typed_fault.TooManySteps (legs, tells, many) unlike = Many refl legs tells many
why_of b p dice typed typed_fault.NoSuchTurn (legs, tells, few, h) unlike = Meaning legs tells few h
why_of b p dice typed typed_fault.WrongHits (legs, tells, few, h) unlike = Meaning legs tells few h
why_of b p dice typed (typed_fault.Ambiguous one two) (legs, tells, few, h) unlike = Meaning legs tells few h
why_of b p dice typed typed_fault.SeveralTurns (legs, tells, few, h) unlike = Meaning legs tells few h

same_length : (typed : List ℕ) (legs more : List Leg) → TellsTyped typed legs → TellsTyped typed more → length legs ≡ length more
same_length typed legs more tells told = ap (λ (xs : List Leg). length xs) (legs_same typed legs more tells told)

why_same : (b : Position) (p : Player) (dice : Dice) (typed : List ℕ) (fault other : TypedFault) → Why b p dice typed fault
    → Why b p dice typed other → fault ≢ typed_fault.Memory → other ≢ typed_fault.Memory → fault ≡ other
why_same b p dice typed fault other (Nothing e none) (Nothing f nothing) unlike unmet = e ∙ sym f
why_same b p dice typed fault other (Nothing e none) (Many f legs tells many) unlike unmet = absurd (none legs tells)
why_same b p dice typed fault other (Nothing e none) (Meaning legs tells few k) unlike unmet = absurd (none legs tells)
why_same b p dice typed fault other (Many e legs tells many) (Nothing f none) unlike unmet = absurd (none legs tells)
why_same b p dice typed fault other (Many e legs tells many) (Many f more told most) unlike unmet = e ∙ sym f
why_same b p dice typed fault other (Many e legs tells many) (Meaning more told few k) unlike unmet =
    let size = same_length typed legs more tells told in absurd (omega (arith, size, many, few))
why_same b p dice typed fault other (Meaning legs tells few h) (Nothing f none) unlike unmet = absurd (none legs tells)
why_same b p dice typed fault other (Meaning legs tells few h) (Many f more told many) unlike unmet =
    let size = same_length typed legs more tells told in absurd (omega (arith, size, many, few))
why_same b p dice typed fault other (Meaning legs tells few h) (Meaning more told small k) unlike unmet =
    meaning_faults b p dice legs fault other h
    (subst (λ (xs : List Leg). IsMeaningFault b p dice xs other) (legs_same typed more legs told tells) k) unlike unmet

pub faults_differ : TypedFaultsDiffer
faults_differ b p dice typed fault other h k unlike unmet =
    why_same b p dice typed fault other (why_of b p dice typed fault h unlike) (why_of b p dice typed other k unmet) unlike unmet
