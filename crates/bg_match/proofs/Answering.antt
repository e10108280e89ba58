-- The entries that answer actions.
use Rattle.std.proofs.Common.{◌≡◌, ◌++◌, ◌∷◌, [], List, Option, sym, ◌∙◌, ap, subst}
use Rattle.std.specs.List.{AllByRecursion}
use Rattle.bg_match.specs.Terms.{Terms}
use Rattle.bg_turns.specs.declared.throws.Dice.{Dice}
use Rattle.bg_match.specs.declared.actions.Action.{Action}
use Rattle.bg_match.specs.declared.actions.Action.TheVariants as action
use Rattle.bg_match.specs.declared.entries.Entry.{Entry}
use Rattle.bg_match.specs.declared.entries.Entry.TheVariants as entry
use Rattle.bg_match.specs.Answers.{Answers, CanAnswer, IsAnswer}
use Rattle.bg_match.specs.Entry.{IsEntry, IsAction}
use Rattle.bg_match.specs.Match.{IsNext}
use Rattle.bg_match.proofs.Legal.{entries_in_range}

-- a roll that is answered has dice
pub can_answer : (a : Action) (dice : Option Dice) (e : Entry) → Answers a dice e → CanAnswer a dice
can_answer action.Roll dice e h = λ none. let some = h.1 in cc
can_answer action.Double dice e h = tt
can_answer action.Take dice e h = tt
can_answer action.Drop dice e h = tt
can_answer (action.Move turn) dice e h = tt
can_answer (action.Resign level) dice e h = tt
can_answer action.Accept dice e h = tt
can_answer action.Reject dice e h = tt

-- an action has one entry, with given dice
pub one_answer : (a : Action) (dice : Option Dice) (e f : Entry) → Answers a dice e → Answers a dice f → e ≡ f
one_answer action.Roll dice e f h k =
    let same : h.0 ≡ k.0 = let p = h.1 in let q = k.1 in cc in
    h.2 ∙ ap entry.Rolled same ∙ sym k.2
one_answer action.Double dice e f h k = h ∙ sym k
one_answer action.Take dice e f h k = h ∙ sym k
one_answer action.Drop dice e f h k = h ∙ sym k
one_answer (action.Move turn) dice e f h k = h ∙ sym k
one_answer (action.Resign level) dice e f h k = h ∙ sym k
one_answer action.Accept dice e f h k = h ∙ sym k
one_answer action.Reject dice e f h k = h ∙ sym k

last_in_range : (entries : List Entry) (e : Entry) → AllByRecursion IsEntry (entries ++ e ∷ []) → IsEntry e
last_in_range [] e h = h.0
last_in_range (x ∷ xs) e h = last_in_range xs e h.1

-- the numbers of an action whose entry is legal are in their ranges
pub action_in_range : (terms : Terms) (entries : List Entry) (a : Action) (dice : Option Dice) (e : Entry) → Answers a dice e
    → IsNext terms entries e → IsAction a
action_in_range terms entries (action.Move turn) dice e h legal =
    subst IsEntry h (last_in_range entries e (entries_in_range terms (entries ++ e ∷ []) legal))
action_in_range terms entries action.Roll dice e h legal = tt
action_in_range terms entries action.Double dice e h legal = tt
action_in_range terms entries action.Take dice e h legal = tt
action_in_range terms entries action.Drop dice e h legal = tt
action_in_range terms entries (action.Resign level) dice e h legal = tt
action_in_range terms entries action.Accept dice e h legal = tt
action_in_range terms entries action.Reject dice e h legal = tt

-- what answers an action with some dice answers it
pub is_answer : (a : Action) (dice : Option Dice) (e : Entry) → Answers a dice e → IsAnswer a e
is_answer action.Roll dice e h = (h.0, h.2)
is_answer action.Double dice e h = h
is_answer action.Take dice e h = h
is_answer action.Drop dice e h = h
is_answer (action.Move turn) dice e h = h
is_answer (action.Resign level) dice e h = h
is_answer action.Accept dice e h = h
is_answer action.Reject dice e h = h
