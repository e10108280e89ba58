-- Two entries that `==` finds equal are the same, and so are two actions.
use Rattle.std.proofs.Common.{◌≡◌, ℕ, Bool, true, false, ◌&&◌, eqb, List, [], ◌∷◌, refl, ◌∙◌, ap, subst, arith}
use Rattle.std.proofs.lemmas.Bool.Decides.{nat_tests}
use Rattle.bg_board.specs.FromTo.{FromTo}
use Rattle.bg_board.specs.declared.dice.Die.{Die}
use Rattle.bg_board.specs.declared.dice.Die.TheVariants.{One, Two, Three, Four, Five, Six}
use Rattle.bg_board.specs.contracts.dice.DiePartialEq.TheImpl.{ghosts as die}
use Rattle.bg_board.specs.contracts.steps.StepPartialEq.TheImpl.{ghosts as step}
use Rattle.bg_turns.specs.declared.throws.Dice.{Dice}
use Rattle.bg_turns.specs.contracts.throws.DicePartialEq.TheImpl.{ghosts as dice}
use Rattle.bg_turns.specs.contracts.turns.TurnPartialEq.TheImpl.{ghosts as turn}
use Rattle.bg_match.specs.declared.levels.Level.{Level}
use Rattle.bg_match.specs.declared.levels.Level.TheVariants.{Normal, Gammon, Backgammon}
use Rattle.bg_match.specs.declared.actions.Action.{Action}
use Rattle.bg_match.specs.declared.actions.Action.TheVariants as action
use Rattle.bg_match.specs.declared.entries.Entry.{Entry}
use Rattle.bg_match.specs.declared.entries.Entry.TheVariants as entry
use Rattle.bg_match.specs.contracts.actions.ActionEq.TheImpl.Laws.{laws-law as action_laws}
use Rattle.bg_match.specs.contracts.entries.EntryEq.TheImpl.Laws.{laws-law as entry_laws}
use Rattle.bg_match.specs.Laws.{ComparesEntries, ComparesActions}
use Rattle.bg_match.specs.contracts.levels.LevelPartialEq.TheImpl.{ghosts as level}
use Rattle.bg_match.specs.contracts.actions.ActionPartialEq.TheImpl.{ghosts as actions}
use Rattle.bg_match.specs.contracts.entries.EntryPartialEq.TheImpl.{ghosts as entries}

both : (a b : Bool) → (a && b) ≡ true → (a ≡ true) × (b ≡ true)
both true b h = (refl, h)
both false b h = cc

differ : {A : Type 0} → false ≡ true → A
differ h = cc

die_eq : (a b : Die) → die.eq a b ≡ true → a ≡ b
die_eq One b h = elim b as (λ x. die.eq One x ≡ true → One ≡ x) [ One ↦ λ h. refl | _ ↦ differ ] h
die_eq Two b h = elim b as (λ x. die.eq Two x ≡ true → Two ≡ x) [ Two ↦ λ h. refl | _ ↦ differ ] h
die_eq Three b h = elim b as (λ x. die.eq Three x ≡ true → Three ≡ x) [ Three ↦ λ h. refl | _ ↦ differ ] h
die_eq Four b h = elim b as (λ x. die.eq Four x ≡ true → Four ≡ x) [ Four ↦ λ h. refl | _ ↦ differ ] h
die_eq Five b h = elim b as (λ x. die.eq Five x ≡ true → Five ≡ x) [ Five ↦ λ h. refl | _ ↦ differ ] h
die_eq Six b h = elim b as (λ x. die.eq Six x ≡ true → Six ≡ x) [ Six ↦ λ h. refl | _ ↦ differ ] h

level_eq : (a b : Level) → level.eq a b ≡ true → a ≡ b
level_eq Normal b h = elim b as (λ x. level.eq Normal x ≡ true → Normal ≡ x) [ Normal ↦ λ h. refl | _ ↦ differ ] h
level_eq Gammon b h = elim b as (λ x. level.eq Gammon x ≡ true → Gammon ≡ x) [ Gammon ↦ λ h. refl | _ ↦ differ ] h
level_eq Backgammon b h = elim b as (λ x. level.eq Backgammon x ≡ true → Backgammon ≡ x) [ Backgammon ↦ λ h. refl | _ ↦ differ ] h

dice_eq : (a b : Dice) → dice.eq a b ≡ true → a ≡ b
dice_eq a b h =
    let parts = both (die.eq a.first b.first) (die.eq a.second b.second) h in
    let first = die_eq a.first b.first parts.0 in
    let second = die_eq a.second b.second parts.1 in
    let middle : Dice = record { first = b.first; second = a.second } in
    let left : a ≡ middle = ap (λ (d : Die). record a { first = d }) first in
    let right : middle ≡ b = ap (λ (d : Die). record b { second = d }) second in
    left ∙ right

step_eq : (a b : FromTo) → step.eq a b ≡ true → a ≡ b
step_eq a b h =
    let parts = both (eqb a.from b.from) (eqb a.to b.to) h in
    let from : a.from ≡ b.from = grind (arith, nat_tests) in
    let to : a.to ≡ b.to = grind (arith, nat_tests) in
    let middle : FromTo = record { from = b.from; to = a.to } in
    let left : a ≡ middle = ap (λ (n : ℕ). record a { from = n }) from in
    let right : middle ≡ b = ap (λ (n : ℕ). record b { to = n }) to in
    left ∙ right

turn_eq : (a b : List FromTo) → turn.eq a b ≡ true → a ≡ b
turn_eq [] [] h = refl
turn_eq [] (y ∷ ys) h = cc
turn_eq (x ∷ xs) [] h = cc
turn_eq (x ∷ xs) (y ∷ ys) h =
    let parts = both (step.eq x y) (turn.eq xs ys) h in
    let first = step_eq x y parts.0 in
    let rest = turn_eq xs ys parts.1 in
    cc

entry_eq : (a b : Entry) → entries.eq a b ≡ true → a ≡ b
entry_eq (entry.Opening x o) b h = elim b as (λ e. entries.eq (entry.Opening x o) e ≡ true → entry.Opening x o ≡ e) [
  | entry.Opening v w ↦ λ h. (
      let parts = both (die.eq x v) (die.eq o w) h in
      let first = die_eq x v parts.0 in
      let second = die_eq o w parts.1 in
      cc)
  | _ ↦ differ
] h
entry_eq (entry.Rolled d) b h = elim b as (λ e. entries.eq (entry.Rolled d) e ≡ true → entry.Rolled d ≡ e) [
  | entry.Rolled other ↦ λ h. (let same = dice_eq d other h in cc)
  | _ ↦ differ
] h
entry_eq (entry.Moved t) b h = elim b as (λ e. entries.eq (entry.Moved t) e ≡ true → entry.Moved t ≡ e) [
  | entry.Moved other ↦ λ h. (let same = turn_eq t other h in cc)
  | _ ↦ differ
] h
entry_eq (entry.Resigned l) b h = elim b as (λ e. entries.eq (entry.Resigned l) e ≡ true → entry.Resigned l ≡ e) [
  | entry.Resigned other ↦ λ h. (let same = level_eq l other h in cc)
  | _ ↦ differ
] h
entry_eq entry.Doubled b h = elim b as (λ e. entries.eq entry.Doubled e ≡ true → entry.Doubled ≡ e) [ entry.Doubled ↦ λ h. refl | _ ↦ differ ] h
entry_eq entry.Taken b h = elim b as (λ e. entries.eq entry.Taken e ≡ true → entry.Taken ≡ e) [ entry.Taken ↦ λ h. refl | _ ↦ differ ] h
entry_eq entry.Dropped b h = elim b as (λ e. entries.eq entry.Dropped e ≡ true → entry.Dropped ≡ e) [ entry.Dropped ↦ λ h. refl | _ ↦ differ ] h
entry_eq entry.Accepted b h = elim b as (λ e. entries.eq entry.Accepted e ≡ true → entry.Accepted ≡ e) [ entry.Accepted ↦ λ h. refl | _ ↦ differ ] h
entry_eq entry.Rejected b h = elim b as (λ e. entries.eq entry.Rejected e ≡ true → entry.Rejected ≡ e) [ entry.Rejected ↦ λ h. refl | _ ↦ differ ] h
entry_eq entry.Passed b h = elim b as (λ e. entries.eq entry.Passed e ≡ true → entry.Passed ≡ e) [ entry.Passed ↦ λ h. refl | _ ↦ differ ] h

action_eq : (a b : Action) → actions.eq a b ≡ true → a ≡ b
action_eq (action.Move t) b h = elim b as (λ e. actions.eq (action.Move t) e ≡ true → action.Move t ≡ e) [
  | action.Move other ↦ λ h. (let same = turn_eq t other h in cc)
  | _ ↦ differ
] h
action_eq (action.Resign l) b h = elim b as (λ e. actions.eq (action.Resign l) e ≡ true → action.Resign l ≡ e) [
  | action.Resign other ↦ λ h. (let same = level_eq l other h in cc)
  | _ ↦ differ
] h
action_eq action.Roll b h = elim b as (λ e. actions.eq action.Roll e ≡ true → action.Roll ≡ e) [ action.Roll ↦ λ h. refl | _ ↦ differ ] h
action_eq action.Double b h = elim b as (λ e. actions.eq action.Double e ≡ true → action.Double ≡ e) [ action.Double ↦ λ h. refl | _ ↦ differ ] h
action_eq action.Take b h = elim b as (λ e. actions.eq action.Take e ≡ true → action.Take ≡ e) [ action.Take ↦ λ h. refl | _ ↦ differ ] h
action_eq action.Drop b h = elim b as (λ e. actions.eq action.Drop e ≡ true → action.Drop ≡ e) [ action.Drop ↦ λ h. refl | _ ↦ differ ] h
action_eq action.Accept b h = elim b as (λ e. actions.eq action.Accept e ≡ true → action.Accept ≡ e) [ action.Accept ↦ λ h. refl | _ ↦ differ ] h
action_eq action.Reject b h = elim b as (λ e. actions.eq action.Reject e ≡ true → action.Reject ≡ e) [ action.Reject ↦ λ h. refl | _ ↦ differ ] h

pub compares_entries : ComparesEntries
compares_entries a b = (entry_eq a b, λ same. subst (λ (e : Entry). entries.eq a e ≡ true) same (entry_laws.refl a))

pub compares_actions : ComparesActions
compares_actions a b = (action_eq a b, λ same. subst (λ (e : Action). actions.eq a e ≡ true) same (action_laws.refl a))
