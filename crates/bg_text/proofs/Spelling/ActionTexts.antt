-- The texts of actions.
use Rattle.std.specs.Prelude.{◌≡◌, ◌≢◌, ℕ, ◌+◌, ◌*◌, ◌<◌, ◌≤◌, List, [], ◌∷◌, ◌++◌, map, sum, codes}
use Rattle.std.specs.List.{AllByRecursion}
use Rattle.std.proofs.Common.{refl, sym, ◌∙◌, ap, arith}
use Rattle.std.proofs.lemmas.List.Elements.{All-from_recursion, All-append, All-cons, All-nil}
use Rattle.bg_board.specs.FromTo.{FromTo}
use Rattle.bg_turns.specs.Turn.{IsDownward}
use Rattle.bg_match.specs.Entry.{IsAction}
use Rattle.bg_match.specs.declared.actions.Action.{Action}
use Rattle.bg_match.specs.declared.actions.Action.TheVariants as action
use Rattle.bg_match.specs.declared.levels.Level.{Level}
use Rattle.bg_match.specs.declared.levels.Level.TheVariants.{Normal, Gammon, Backgammon}
use Rattle.bg_text.specs.Entries.Words.{words_of}
use Rattle.bg_text.specs.Entries.EntryText.{step_text, source_text, target_text, level_word, action_words, action_text}
use Rattle.bg_text.specs.Entries.EntryShape.{MovesDownward}
use Rattle.bg_text.proofs.Spelling.Splits.{IsWord, words_spaced}
use Rattle.bg_text.proofs.Spelling.PairTexts.{source_lacks, target_lacks, source_shape, target_shape, same_step}

abbrev pub move_line : List FromTo → List ℕ
move_line steps = action_text (action.Move steps)

-- a step is one word
pub step_word : (step : FromTo) → IsDownward step → IsWord (step_text step)
step_word step h =
    let P : ℕ → Type 0 = λ b. b ≢ 32 in
    let low : step.to < step.from = h.lower in
    let high : step.from ≤ 25 = h.starts in
    All-append P (source_text step.from ++ codes "-") (target_text step.to)
    (All-append P (source_text step.from) (codes "-")
    (source_lacks 32 (source_text step.from) (omega arith) (source_shape step.from high))
    (All-cons P 45 [] (omega arith) (All-nil P)))
    (target_lacks 32 (target_text step.to) (omega arith) (target_shape step.to (omega arith)))

pub step_words : (steps : List FromTo) → AllByRecursion IsDownward steps → AllByRecursion IsWord (map step_text steps)
step_words [] h = tt
step_words (step ∷ steps) h = (step_word step h.0, step_words steps h.1)

pub move_word : IsWord (codes "move")
move_word =
    let P : ℕ → Type 0 = λ b. b ≢ 32 in
    All-from_recursion P (codes "move") (omega arith, (omega arith, (omega arith, (omega arith, tt))))

pub words_of_move : (steps : List FromTo) → AllByRecursion IsDownward steps → words_of (move_line steps) ≡ codes "move" ∷ map step_text steps
words_of_move steps h = words_spaced (codes "move") (map step_text steps) move_word (step_words steps h)

-- the words of an action's text are its words
pub words_of_action : (a : Action) → MovesDownward a → words_of (action_text a) ≡ action_words a
words_of_action action.Roll h = refl
words_of_action action.Double h = refl
words_of_action action.Take h = refl
words_of_action action.Drop h = refl
words_of_action (action.Move steps) h = words_of_move steps h
words_of_action (action.Resign Normal) h = refl
words_of_action (action.Resign Gammon) h = refl
words_of_action (action.Resign Backgammon) h = refl
words_of_action action.Accept h = refl
words_of_action action.Reject h = refl

-- the sum of the first word's letters, the first of them three times, which tells the kinds of
-- lines apart
abbrev pub first_sum : List (List ℕ) → ℕ
first_sum [] = 0
first_sum ([] ∷ words) = 0
first_sum ((byte ∷ word) ∷ words) = 3 * byte + sum word

pub same_steps : (a b : List FromTo) → AllByRecursion IsDownward a → AllByRecursion IsDownward b → map step_text a ≡ map step_text b → a ≡ b
same_steps [] [] h k e = refl
same_steps [] (t ∷ b) h k e = absurd cc
same_steps (s ∷ a) [] h k e = absurd cc
same_steps (s ∷ a) (t ∷ b) h k e =
    let first : step_text s ≡ step_text t = cc in
    let rest : map step_text a ≡ map step_text b = cc in
    let one : s ≡ t = same_step s t h.0 k.0 first in
    let more : a ≡ b = same_steps a b h.1 k.1 rest in cc

pub same_level : (a b : Level) → level_word a ≡ level_word b → a ≡ b
same_level Normal Normal e = refl
same_level Normal _ e = absurd (omega (arith, ap sum e))
same_level Gammon Gammon e = refl
same_level Gammon _ e = absurd (omega (arith, ap sum e))
same_level Backgammon Backgammon e = refl
same_level Backgammon _ e = absurd (omega (arith, ap sum e))

pub same_words : (a b : Action) → MovesDownward a → MovesDownward b → action_words a ≡ action_words b → a ≡ b
same_words action.Roll action.Roll h k e = refl
same_words action.Roll _ h k e = absurd (omega (arith, ap first_sum e))
same_words action.Double action.Double h k e = refl
same_words action.Double _ h k e = absurd (omega (arith, ap first_sum e))
same_words action.Take action.Take h k e = refl
same_words action.Take _ h k e = absurd (omega (arith, ap first_sum e))
same_words action.Drop action.Drop h k e = refl
same_words action.Drop _ h k e = absurd (omega (arith, ap first_sum e))
same_words (action.Move a) (action.Move b) h k e =
    let words : map step_text a ≡ map step_text b = cc in
    ap action.Move (same_steps a b h k words)
same_words (action.Move a) _ h k e = absurd (omega (arith, ap first_sum e))
same_words (action.Resign a) (action.Resign b) h k e =
    let word : level_word a ≡ level_word b = cc in
    ap action.Resign (same_level a b word)
same_words (action.Resign a) _ h k e = absurd (omega (arith, ap first_sum e))
same_words action.Accept action.Accept h k e = refl
same_words action.Accept _ h k e = absurd (omega (arith, ap first_sum e))
same_words action.Reject action.Reject h k e = refl
same_words action.Reject _ h k e = absurd (omega (arith, ap first_sum e))

pub downward_action : (a : Action) → IsAction a → MovesDownward a
downward_action (action.Move steps) h = h.each
downward_action action.Roll h = tt
downward_action action.Double h = tt
downward_action action.Take h = tt
downward_action action.Drop h = tt
downward_action (action.Resign level) h = tt
downward_action action.Accept h = tt
downward_action action.Reject h = tt

-- one text is the text of one action
pub same_action : (a b : Action) → MovesDownward a → MovesDownward b → action_text a ≡ action_text b → a ≡ b
same_action a b h k e = same_words a b h k (sym (words_of_action a h) ∙ (ap words_of e ∙ words_of_action b k))
