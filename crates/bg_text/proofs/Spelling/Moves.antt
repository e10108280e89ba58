-- The pairs of a move, and their turn.
use Rattle.std.specs.Prelude.{◌≡◌, ℕ, List, [], ◌∷◌, ◌++◌, length, map, Option, Some, None, IsSome, is_some, false, Result, Ok, Err}
use Rattle.std.specs.List.{AllByRecursion}
use Rattle.std.proofs.Common.{refl, sym, ◌∙◌, ap, arith, length-append, append_assoc}
use Rattle.bg_board.specs.FromTo.{FromTo}
use Rattle.bg_turns.specs.Turn.{IsDownward}
use Rattle.bg_text.specs.Entries.EntryText.{step_text}
use Rattle.bg_text.specs.Entries.EntryShape.{IsPairShape}
use Rattle.bg_text.specs.Entries.Pairs.{turn_or, IsPairOf, IsTurnOf}
use Rattle.bg_text.specs.declared.faults.TextFault.{TextFault}
use Rattle.bg_text.specs.declared.faults.TextFault.TheVariants.{NotALine, BadNumber, TooManySteps}
use Rattle.bg_text.proofs.Spelling.PairTexts.{step_shape}

pub each_push : {A : Type 0} (P : A → Type 0) (xs : List A) (x : A) → AllByRecursion P xs → P x → AllByRecursion P (xs ++ x ∷ [])
each_push P [] x h k = (k, tt)
each_push P (y ∷ ys) x h k = (h.0, each_push P ys x h.1 k)

pub each_last : {A : Type 0} (P : A → Type 0) (xs : List A) (x : A) → AllByRecursion P (xs ++ x ∷ []) → AllByRecursion P xs × P x
each_last P [] x h = (tt, h.0)
each_last P (y ∷ ys) x h = let rest = each_last P ys x h.1 in ((h.0, rest.0), rest.1)

pub map_push : {A B : Type 0} (f : A → B) (xs : List A) (x : A) → map f (xs ++ x ∷ []) ≡ map f xs ++ f x ∷ []
map_push f [] x = refl
map_push f (y ∷ ys) x = ap (λ rest. f y ∷ rest) (map_push f ys x)

-- a list with a last element is a `map` only of a list with a last element
pub record IsLastMapped {A B : Type 0} (f : A → B) (ys : List B) (y : B) (xs : List A) : Type 0 where
  pub front : List A
  pub last : A
  pub whole : xs ≡ front ++ last ∷ []
  pub front_mapped : ys ≡ map f front
  pub last_mapped : y ≡ f last

pub last_mapped : {A B : Type 0} (f : A → B) (ys : List B) (y : B) (xs : List A) → ys ++ y ∷ [] ≡ map f xs → IsLastMapped f ys y xs
last_mapped f [] y [] e = absurd cc
last_mapped f [] y (x ∷ []) e = record { front = []; last = x; whole = refl; front_mapped = refl; last_mapped = cc }
last_mapped f [] y (x ∷ u ∷ xs) e = absurd cc
last_mapped f (z ∷ ys) y [] e = absurd cc
last_mapped f (z ∷ ys) y (x ∷ xs) e =
    let rest_same : ys ++ y ∷ [] ≡ map f xs = cc in
    let head_same : z ≡ f x = cc in
    let rest = last_mapped f ys y xs rest_same in
    record {
      front = x ∷ rest.front;
      last = rest.last;
      whole = ap (λ l. x ∷ l) rest.whole;
      front_mapped = rw (head_same, rest.front_mapped) refl;
      last_mapped = rest.last_mapped;
    }

-- what is no step's text stands in no move
no_move : (pairs : List (List ℕ)) (pair : List ℕ) → ((step : FromTo) → IsDownward step → pair ≡ step_text step → ⊥) → (steps : List FromTo) → AllByRecursion IsDownward steps → pairs ++ pair ∷ [] ≡ map step_text steps → ⊥
no_move pairs pair h steps down e =
    let parts = last_mapped step_text pairs pair steps e in
    let each : AllByRecursion IsDownward (parts.front ++ parts.last ∷ []) = rw (← parts.whole) down in
    h parts.last (each_last IsDownward parts.front parts.last each).1 parts.last_mapped

pub shape_of_step : (pair : List ℕ) (step : FromTo) → IsPairOf pair (Ok step) → IsPairShape pair
shape_of_step pair step h = rw h.1 (step_shape step h.0)

pub still_wrong : (pairs : List (List ℕ)) (pair : List ℕ) (fault : TextFault) (step : FromTo) → AllByRecursion IsPairShape pairs → IsTurnOf pairs (Err fault) → IsPairOf pair (Ok step) → IsTurnOf (pairs ++ pair ∷ []) (Err fault)
still_wrong pairs pair NotALine step shapes wrong right = absurd (wrong shapes)
still_wrong pairs pair BadNumber step shapes wrong right = (
  each_push IsPairShape pairs pair shapes (shape_of_step pair step right),
  λ steps down e.
      let parts = last_mapped step_text pairs pair steps e in
      let each : AllByRecursion IsDownward (parts.front ++ parts.last ∷ []) = rw (← parts.whole) down in
      wrong.1 parts.front (each_last IsDownward parts.front parts.last each).0 parts.front_mapped,
)
still_wrong pairs pair TooManySteps step shapes (steps, text, down, many) right = (
  steps ++ step ∷ [],
  rw (text, right.1) (sym (map_push step_text steps step)),
  each_push IsDownward steps step down right.0,
  omega (arith, length-append steps (step ∷ [])),
)

-- what is wrong stays so behind a further pair
pub wrong_stays : (pairs : List (List ℕ)) (pair : List ℕ) (fault : Option TextFault) (steps : List FromTo) (step : FromTo) → IsSome fault → AllByRecursion IsPairShape pairs → IsTurnOf pairs (turn_or fault steps) → IsPairOf pair (Ok step) → IsTurnOf (pairs ++ pair ∷ []) (turn_or fault steps)
wrong_stays pairs pair None steps step some shapes wrong right = absurd cc
wrong_stays pairs pair (Some fault) steps step some shapes wrong right = still_wrong pairs pair fault step shapes wrong right

-- the turn, where nothing is wrong
pub none_wrong : (pairs : List (List ℕ)) (fault : Option TextFault) (steps : List FromTo) → is_some fault ≡ false → IsTurnOf pairs (turn_or fault steps) → IsTurnOf pairs (Ok steps)
none_wrong pairs None steps none turn = turn
none_wrong pairs (Some fault) steps none turn = absurd cc

pub too_many : (pairs : List (List ℕ)) (pair : List ℕ) (steps : List FromTo) (step : FromTo) → IsTurnOf pairs (Ok steps) → IsPairOf pair (Ok step) → length steps ≡ 4 → IsTurnOf (pairs ++ pair ∷ []) (Err TooManySteps)
too_many pairs pair steps step turn right full = (
  steps ++ step ∷ [],
  rw (turn.1, right.1) (sym (map_push step_text steps step)),
  each_push IsDownward steps step turn.0.each right.0,
  omega (arith, length-append steps (step ∷ [])),
)

-- a word of another shape makes the whole another shape
pub wrong_shape : (pairs : List (List ℕ)) (pair : List ℕ) (rest : List (List ℕ)) → (IsPairShape pair → ⊥) → AllByRecursion IsPairShape (pairs ++ pair ∷ rest) → ⊥
wrong_shape [] pair rest h all = h all.0
wrong_shape (p ∷ pairs) pair rest h all = wrong_shape pairs pair rest h all.1

-- where some pairs of all are read, and the turn is theirs
pub record IsReadSoFar (all left : List (List ℕ)) (turn : Result (List FromTo) TextFault) : Type 0 where
  pub read : List (List ℕ)
  pub whole : all ≡ read ++ left
  pub shapes : AllByRecursion IsPairShape read
  pub turn_of : IsTurnOf read turn

pub one_more_read : (all : List (List ℕ)) (pair : List ℕ) (left : List (List ℕ)) (turn next : Result (List FromTo) TextFault) (step : FromTo) → IsReadSoFar all (pair ∷ left) turn → IsPairOf pair (Ok step) → ((pairs : List (List ℕ)) (p : List ℕ) → AllByRecursion IsPairShape pairs → IsTurnOf pairs turn → IsPairOf p (Ok step) → IsTurnOf (pairs ++ p ∷ []) next) → IsReadSoFar all left next
one_more_read all pair left turn next step h right goes = record {
  read = h.read ++ pair ∷ [];
  whole = h.whole ∙ sym (append_assoc h.read (pair ∷ []) left);
  shapes = each_push IsPairShape h.read pair h.shapes (shape_of_step pair step right);
  turn_of = goes h.read pair h.shapes h.turn_of right;
}

-- a wrong number outweighs what was read before
pub one_wrong : (all : List (List ℕ)) (pair : List ℕ) (left : List (List ℕ)) (turn : Result (List FromTo) TextFault) → IsReadSoFar all (pair ∷ left) turn → IsPairOf pair (Err BadNumber) → IsReadSoFar all left (Err BadNumber)
one_wrong all pair left turn h wrong =
    let shapes = each_push IsPairShape h.read pair h.shapes wrong.0 in
    record {
      read = h.read ++ pair ∷ [];
      whole = h.whole ∙ sym (append_assoc h.read (pair ∷ []) left);
      shapes = shapes;
      turn_of = (shapes, no_move h.read pair wrong.1);
    }

pub stopped : (all : List (List ℕ)) (pair : List ℕ) (left : List (List ℕ)) (turn : Result (List FromTo) TextFault) → IsReadSoFar all (pair ∷ left) turn → (IsPairShape pair → ⊥) → AllByRecursion IsPairShape all → ⊥
stopped all pair left turn h wrong shapes =
    wrong_shape h.read pair left wrong (rw h.whole at shapes)
