-- What contracts see of an `Entry` and of an `Action`.
use Rattle.bg_turns.specs.Turn.{IsTurn}
use Rattle.bg_match.specs.declared.actions.Action.{Action}
use Rattle.bg_match.specs.declared.actions.Action.TheVariants as action
use Rattle.bg_match.specs.declared.entries.Entry.{Entry}
use Rattle.bg_match.specs.declared.entries.Entry.TheVariants as entry

-- the numbers of the entry are in their ranges: only those of a turn are plain numbers
abbrev pub IsEntry : Entry → Type 0
IsEntry (entry.Moved turn) = IsTurn turn
IsEntry _ = Unit {0}

-- the numbers of the action are in their ranges
abbrev pub IsAction : Action → Type 0
IsAction (action.Move turn) = IsTurn turn
IsAction _ = Unit {0}

-- the entry is the referee's own: it opens a game, or passes a turn
abbrev pub IsByReferee : Entry → Type 0
IsByReferee (entry.Opening x o) = Unit {0}
IsByReferee entry.Passed = Unit {0}
IsByReferee _ = ⊥
