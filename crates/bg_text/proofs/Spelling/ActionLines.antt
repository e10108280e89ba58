-- What a line says, or has wrong, as an action's text.
use Rattle.std.specs.Prelude.{◌≡◌, ℕ, List, [], ◌∷◌, ◌++◌, length, map, Contains, codes, Result, Ok, Err}
use Rattle.std.specs.List.{AllByRecursion}
use Rattle.std.proofs.Common.{refl, sym, ◌∙◌, ap, arith, inl, inr}
use Rattle.std.proofs.lemmas.List.Elements.{All-from_recursion, All-contains}
use Rattle.bg_board.specs.FromTo.{FromTo}
use Rattle.bg_turns.specs.Turn.{IsDownward, IsTurn}
use Rattle.bg_match.specs.Entry.{IsAction}
use Rattle.bg_match.specs.declared.actions.Action.{Action}
use Rattle.bg_match.specs.declared.actions.Action.TheVariants as action
use Rattle.bg_match.specs.declared.levels.Level.TheVariants.{Normal, Gammon, Backgammon}
use Rattle.bg_text.specs.Entries.Words.{words_of, spaced}
use Rattle.bg_text.specs.Entries.EntryText.{step_text, action_words, action_text}
use Rattle.bg_text.specs.Entries.EntryShape.{IsPairShape, IsActionShape, plain_words, MovesDownward, IsActionTextFault}
use Rattle.bg_text.specs.Entries.Pairs.{IsPairsFault}
use Rattle.bg_text.specs.Entries.Lines.{IsFixed, IsActionOf}
use Rattle.bg_text.specs.declared.faults.TextFault.{TextFault}
use Rattle.bg_text.specs.declared.faults.TextFault.TheVariants.{NotALine, BadNumber, TooManySteps}
use Rattle.bg_text.proofs.Spelling.Splits.{words_not_nil, line_spaced}
use Rattle.bg_text.proofs.Spelling.PairTexts.{step_shape}
use Rattle.bg_text.proofs.Spelling.ActionTexts.{first_sum, words_of_action, same_action, downward_action}

-- a line is a move where its pairs are the texts of the steps
pub move_of_pairs : (pairs : List ℕ) (steps : List FromTo) → words_of pairs ≡ map step_text steps → codes "move " ++ pairs ≡ action_text (action.Move steps)
move_of_pairs pairs [] e = absurd (words_not_nil pairs e)
move_of_pairs pairs (step ∷ steps) e = ap (λ rest. codes "move " ++ rest) (line_spaced pairs (map step_text (step ∷ steps)) e)

-- the words of each line that has no number
abbrev pub IsFixedWords : List (List ℕ) → Type 0
IsFixedWords words = (a : Action) × IsFixed a × (words ≡ action_words a)

pub plain_fixed : (words : List (List ℕ)) → Contains plain_words words → IsFixedWords words
plain_fixed words h =
    All-contains IsFixedWords plain_words words
    (All-from_recursion IsFixedWords plain_words (
      (action.Double, tt, refl),
      (
        (action.Take, tt, refl),
        (
          (action.Drop, tt, refl),
          (
            (action.Resign Normal, tt, refl),
            (
              (action.Resign Gammon, tt, refl),
              (
                (action.Resign Backgammon, tt, refl),
                (
                  (action.Accept, tt, refl),
                  ((action.Reject, tt, refl), tt),
                ),
              ),
            ),
          ),
        ),
      ),
    ))
    h

-- no line without numbers has pairs
fixed_no_pairs : (a : Action) (pair : List ℕ) (pairs : List (List ℕ)) → IsFixed a → codes "move" ∷ pair ∷ pairs ≡ action_words a → ⊥
fixed_no_pairs (action.Move steps) pair pairs h e =
    let nil : codes "move" ∷ pair ∷ pairs ≡ codes "move" ∷ [] = rw h at e in
    omega (arith, ap length nil)
fixed_no_pairs _ pair pairs h e = omega (arith, ap first_sum e)

pub move_pairs_of_shape : (pairs : List (List ℕ)) → IsActionShape (codes "move" ∷ pairs) → AllByRecursion IsPairShape pairs
move_pairs_of_shape pairs (inl e) = absurd (omega (arith, ap first_sum e))
move_pairs_of_shape pairs (inr (inl h)) =
    let same : h.pairs ≡ pairs = cc h.spelled in
    rw same at h.each
move_pairs_of_shape [] (inr (inr h)) = tt
move_pairs_of_shape (pair ∷ pairs) (inr (inr h)) =
    let fixed = plain_fixed (codes "move" ∷ pair ∷ pairs) h in
    absurd (fixed_no_pairs fixed.0 pair pairs fixed.1 fixed.2)

pub move_shape : (pairs : List (List ℕ)) → AllByRecursion IsPairShape pairs → IsActionShape (codes "move" ∷ pairs)
move_shape pairs each = inr (inl (record { pairs = pairs; spelled = refl; each = each }))

-- the pairs of a move that is an action's text are the texts of its steps
pub pairs_of_text : (pairs : List ℕ) (a : Action) → MovesDownward a → codes "move " ++ pairs ≡ action_text a → (steps : List FromTo) × AllByRecursion IsDownward steps × (words_of pairs ≡ map step_text steps)
pairs_of_text pairs a h e =
    let words : codes "move" ∷ words_of pairs ≡ action_words a = ap words_of e ∙ words_of_action a h in
    from a h words
  where
    from : (a : Action) → MovesDownward a → codes "move" ∷ words_of pairs ≡ action_words a → (steps : List FromTo) × AllByRecursion IsDownward steps × (words_of pairs ≡ map step_text steps)
    from (action.Move steps) h words = (steps, h, cc words)
    from action.Roll h words = absurd (omega (arith, ap first_sum words))
    from action.Double h words = absurd (omega (arith, ap first_sum words))
    from action.Take h words = absurd (omega (arith, ap first_sum words))
    from action.Drop h words = absurd (omega (arith, ap first_sum words))
    from (action.Resign level) h words = absurd (omega (arith, ap first_sum words))
    from action.Accept h words = absurd (omega (arith, ap first_sum words))
    from action.Reject h words = absurd (omega (arith, ap first_sum words))

pub move_fault : (pairs : List ℕ) (fault : TextFault) → IsPairsFault fault (words_of pairs) → IsActionTextFault fault (codes "move " ++ pairs)
move_fault pairs NotALine h = λ shape. h (move_pairs_of_shape (words_of pairs) shape)
move_fault pairs BadNumber h = (
  move_shape (words_of pairs) h.0,
  λ a down e. let found = pairs_of_text pairs a down e in h.1 found.0 found.1 found.2,
)
move_fault pairs TooManySteps (steps, text, down, many) = (steps, move_of_pairs pairs steps text, down, many)

-- a line of an action's shape has pairs or is fixed
pub no_action_shape : (line : List ℕ) → ((rest : List ℕ) → line ≡ codes "move " ++ rest → ⊥) → ((a : Action) → IsFixed a → line ≡ action_text a → ⊥) → IsActionShape (words_of line) → ⊥
no_action_shape line pairs fixed (inl e) = fixed action.Roll tt (line_spaced line (codes "roll" ∷ []) e)
no_action_shape line pairs fixed (inr (inl h)) = of_move h.pairs h.spelled
  where
    of_move : (words : List (List ℕ)) → words_of line ≡ codes "move" ∷ words → ⊥
    of_move [] e = fixed (action.Move []) refl (line_spaced line (codes "move" ∷ []) e)
    of_move (pair ∷ more) e = pairs (spaced (pair ∷ more)) (line_spaced line (codes "move" ∷ pair ∷ more) e)
no_action_shape line pairs fixed (inr (inr h)) =
    let found = plain_fixed (words_of line) h in
    fixed found.0 found.1 (line_spaced line (action_words found.0) found.2)

-- the texts of steps have the shape of pairs
pub each_shape : (steps : List FromTo) → AllByRecursion IsDownward steps → AllByRecursion IsPairShape (map step_text steps)
each_shape [] h = tt
each_shape (step ∷ steps) h = (step_shape step h.0, each_shape steps h.1)

-- what is wrong with a line is nothing that an action's text has
pub no_fault : (line : List ℕ) (fault : TextFault) (a : Action) → IsActionTextFault fault line → IsAction a → line ≡ action_text a → ⊥
no_fault line NotALine a h range e = h (rw (e, words_of_action a (downward_action a range)) (shape a range))
  where
    shape : (a : Action) → IsAction a → IsActionShape (action_words a)
    shape action.Roll h = inl refl
    shape action.Double h = inr (inr (0, omega arith, refl))
    shape action.Take h = inr (inr (1, omega arith, refl))
    shape action.Drop h = inr (inr (2, omega arith, refl))
    shape (action.Move steps) h = move_shape (map step_text steps) (each_shape steps h.each)
    shape (action.Resign Normal) h = inr (inr (3, omega arith, refl))
    shape (action.Resign Gammon) h = inr (inr (4, omega arith, refl))
    shape (action.Resign Backgammon) h = inr (inr (5, omega arith, refl))
    shape action.Accept h = inr (inr (6, omega arith, refl))
    shape action.Reject h = inr (inr (7, omega arith, refl))
no_fault line BadNumber a h range e = h.1 a (downward_action a range) e
no_fault line TooManySteps a (steps, text, down, many) range e =
    let same : a ≡ action.Move steps = same_action a (action.Move steps) (downward_action a range) down (sym e ∙ text) in
    let few : IsTurn steps = rw same at range in
    omega (arith, few.few)

pub only_action : (line : List ℕ) (result : Result Action TextFault) → IsActionOf line result → (a : Action) → IsAction a → line ≡ action_text a → result ≡ Ok a
only_action line (Ok found) h a range e =
    ap Ok (same_action found a (downward_action found h.0) (downward_action a range) (sym h.1 ∙ e))
only_action line (Err fault) h a range e = absurd (no_fault line fault a h range e)
