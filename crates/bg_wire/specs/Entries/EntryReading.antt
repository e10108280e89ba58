-- Reading entries and actions, as the code does it: words of private contracts, of which no public
-- clause speaks.
use Rattle.std.specs.Prelude.{◌==◌, ℕ, ◌-◌, List, Ok, if◌then◌else◌}
use Rattle.bg_board.specs.FromTo.{FromTo}
use Rattle.bg_board.specs.Die.{die_of}
use Rattle.bg_board.specs.declared.dice.Die.{Die}
use Rattle.bg_turns.specs.declared.throws.Dice.{Dice}
use Rattle.bg_match.specs.declared.actions.Action.{Action}
use Rattle.bg_match.specs.declared.actions.Action.TheVariants as action
use Rattle.bg_match.specs.declared.entries.Entry.{Entry}
use Rattle.bg_match.specs.declared.entries.Entry.TheVariants as entry
use Rattle.bg_match.specs.declared.levels.Level.{Level}
use Rattle.bg_match.specs.declared.levels.Level.TheVariants.{Normal, Gammon, Backgammon}
use Rattle.bg_wire.specs.Entries.Codes.{opening_code, rolled_code, doubled_code, taken_code, dropped_code, moved_code, resigned_code, accepted_code, rejected_code, normal_code, gammon_code, backgammon_code, least_pips, most_pips, lowest_start, bar, most_steps}
use Rattle.bg_wire.specs.Saved.SavedLayouts.{last_code}
use Rattle.bg_wire.specs.declared.saves.layouts.Layout.{Layout}
use Rattle.bg_wire.specs.Entries.Reading.{◌>>=◌, Cursor, Read, u8_at, many_at, with}

unfoldable pub step_at : Cursor → Read FromTo
step_at c = do
  from ← u8_at lowest_start bar c
  to ← u8_at 0 (from.0 - 1) from.1
  Ok (record { from = from.0; to = to.0 }, to.1)

unfoldable pub turn_at : Cursor → Read (List FromTo)
turn_at c = do
  count ← u8_at 0 most_steps c
  many_at step_at count.0 count.1

abbrev pub level_of_code : ℕ → Level
level_of_code code = if code == normal_code then Normal else if code == gammon_code then Gammon else Backgammon

unfoldable pub level_at : Cursor → Read Level
level_at c = do
  code ← u8_at normal_code backgammon_code c
  Ok (level_of_code code.0, code.1)

unfoldable pub die_at : Cursor → Read Die
die_at c = do
  shown ← u8_at least_pips most_pips c
  Ok (die_of shown.0, shown.1)

unfoldable pub dice_at : Cursor → Read Dice
dice_at c = do
  first ← die_at c
  second ← die_at first.1
  Ok (record { first = first.0; second = second.0 }, second.1)

-- what follows the code of an action
unfoldable pub action_of : ℕ → Cursor → Read Action
action_of code c =
    if code == rolled_code then Ok (action.Roll, c)
    else if code == doubled_code then Ok (action.Double, c)
    else if code == taken_code then Ok (action.Take, c)
    else if code == dropped_code then Ok (action.Drop, c)
    else if code == moved_code then with action.Move (turn_at c)
    else if code == resigned_code then with action.Resign (level_at c)
    else if code == accepted_code then Ok (action.Accept, c)
    else Ok (action.Reject, c)

unfoldable pub action_at : Cursor → Read Action
action_at c = do
  code ← u8_at rolled_code rejected_code c
  action_of code.0 code.1

-- what follows the code of an entry
unfoldable pub entry_of : ℕ → Cursor → Read Entry
entry_of code c =
    if code == opening_code then with (λ dice. entry.Opening dice.first dice.second) (dice_at c)
    else if code == rolled_code then with entry.Rolled (dice_at c)
    else if code == doubled_code then Ok (entry.Doubled, c)
    else if code == taken_code then Ok (entry.Taken, c)
    else if code == dropped_code then Ok (entry.Dropped, c)
    else if code == moved_code then with entry.Moved (turn_at c)
    else if code == resigned_code then with entry.Resigned (level_at c)
    else if code == accepted_code then Ok (entry.Accepted, c)
    else if code == rejected_code then Ok (entry.Rejected, c)
    else Ok (entry.Passed, c)

-- a pass has a code in one layout alone
unfoldable pub entry_at : Layout → Cursor → Read Entry
entry_at layout c = do
  code ← u8_at opening_code (last_code layout) c
  entry_of code.0 code.1
