-- What holds of every match.
use Rattle.std.specs.Prelude.{◌≡◌, ◌↔◌, true, Option, None, List, [], ◌∷◌, ◌++◌}
use Rattle.std.specs.List.{AllByRecursion}
use Rattle.bg_board.specs.declared.players.Player.{Player}
use Rattle.bg_turns.specs.declared.throws.Dice.{Dice}
use Rattle.bg_match.specs.Limits.{IsMatchLength}
use Rattle.bg_match.specs.Terms.{Terms, match_length}
use Rattle.bg_match.specs.declared.phases.Actor.TheVariants.{Referee}
use Rattle.bg_match.specs.declared.actions.Action.{Action}
use Rattle.bg_match.specs.declared.entries.Entry.{Entry}
use Rattle.bg_match.specs.contracts.actions.ActionPartialEq.TheImpl.{ghosts as of_actions}
use Rattle.bg_match.specs.contracts.entries.EntryPartialEq.TheImpl.{ghosts as of_entries}
use Rattle.bg_match.specs.State.{State}
use Rattle.bg_match.specs.Entry.{IsEntry, IsAction, IsByReferee}
use Rattle.bg_match.specs.Match.{StandsAt, IsLegalRecord, IsNext, ActsAfter, SeatAfter}
use Rattle.bg_match.specs.Answers.{IsAnswer, Answers}

-- a match of any terms may begin
abbrev pub MayBegin : Type 0
MayBegin = (terms : Terms) → IsMatchLength (match_length terms) → IsLegalRecord terms []

-- a front part of a legal record is legal
abbrev pub HasLegalFronts : Type 0
HasLegalFronts = (terms : Terms) (front rest : List Entry)
    → IsLegalRecord terms (front ++ rest) → IsLegalRecord terms front

-- a match stands at one place
abbrev pub HasOneStanding : Type 0
HasOneStanding = (terms : Terms) (entries : List Entry) (s t : State)
    → StandsAt terms entries s → StandsAt terms entries t → s ≡ t

-- the numbers of every entry of a legal record are in their ranges
abbrev pub HasEntriesInRange : Type 0
HasEntriesInRange = (terms : Terms) (entries : List Entry)
    → IsLegalRecord terms entries → AllByRecursion IsEntry entries

-- where an entry of the referee's own may follow, the referee acts
abbrev pub ActsItself : Type 0
ActsItself = (terms : Terms) (entries : List Entry) (e : Entry)
    → IsLegalRecord terms (entries ++ e ∷ []) → IsByReferee e → ActsAfter terms entries Referee

-- every entry of a legal record is made by a seat, but for the referee's own
abbrev pub MadeWithoutSeat : Type 0
MadeWithoutSeat = (terms : Terms) (front rest : List Entry) (e : Entry) (seat : Option Player)
    → IsLegalRecord terms (front ++ e ∷ rest) → SeatAfter terms front seat → (seat ≡ None) ↔ IsByReferee e

-- the entry that answers an action with some dice answers the action
abbrev pub AnswersWithDice : Type 0
AnswersWithDice = (a : Action) (dice : Option Dice) (e : Entry) → Answers a dice e → IsAnswer a e

-- an entry answers one action
abbrev pub AnswersOneAction : Type 0
AnswersOneAction = (a b : Action) (e : Entry) → IsAnswer a e → IsAnswer b e → a ≡ b

-- an entry of the referee's own answers none
abbrev pub OwnAnswersNone : Type 0
OwnAnswersNone = (a : Action) (e : Entry) → IsByReferee e → IsAnswer a e → ⊥

-- the entry of an action is in its ranges where the action is
abbrev pub AnswersInRange : Type 0
AnswersInRange = (a : Action) (e : Entry) → IsAnswer a e → IsAction a → IsEntry e

-- whether the entry of an action is legal does not depend on the dice of a roll
abbrev pub RollsAnyDice : Type 0
RollsAnyDice = (terms : Terms) (entries : List Entry) (a : Action) (dice other : Option Dice) (e f : Entry)
    → Answers a dice e → Answers a other f
    → IsNext terms entries e → IsNext terms entries f

-- `==` of entries says whether they are the same
abbrev pub ComparesEntries : Type 0
ComparesEntries = (a b : Entry) → (of_entries.eq a b ≡ true) ↔ (a ≡ b)

-- `==` of actions says whether they are the same
abbrev pub ComparesActions : Type 0
ComparesActions = (a b : Action) → (of_actions.eq a b ≡ true) ↔ (a ≡ b)
