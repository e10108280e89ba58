-- What an automatic player does.
use Rattle.std.specs.Prelude.{◌≡◌, ◌⊎◌, ◌↔◌, ◌<◌, ◌≤◌, ◌+◌, ◌%◌, ◌==◌, ℕ, if◌then◌else◌, Option, Some, None, List}
use Rattle.std.specs.Prelude.{length, slice_get, AllPairs, Contains}
use Rattle.bg_board.specs.FromTo.{FromTo}
use Rattle.bg_board.specs.Position.{Position}
use Rattle.bg_board.specs.declared.players.Player.{Player}
use Rattle.bg_turns.specs.Turn.{IsLegalTurn}
use Rattle.bg_turns.specs.TurnOrder.{IsGreater}
use Rattle.bg_turns.specs.declared.throws.Dice.{Dice}
use Rattle.bg_match.specs.Limits.{most_entries}
use Rattle.bg_match.specs.Match.{ActsAfter, IsNext, Log, StandsAt}
use Rattle.bg_match.specs.State.{State}
use Rattle.bg_match.specs.Terms.{Terms}
use Rattle.bg_match.specs.declared.actions.Action.{Action}
use Rattle.bg_match.specs.declared.actions.Action.TheVariants as action
use Rattle.bg_match.specs.declared.entries.Entry.{Entry}
use Rattle.bg_match.specs.declared.entries.Entry.TheVariants as entry
use Rattle.bg_match.specs.declared.phases.Actor.TheVariants.{Seat}
use Rattle.bg_match.specs.declared.phases.Phase.{Phase}
use Rattle.bg_match.specs.declared.phases.Phase.TheVariants as phase

-- the number of the entry that comes next
abbrev pub next_number : List Entry → ℕ
next_number entries = length entries + 1

-- he doubles as an entry whose number 16 divides, where he may
abbrev pub Doubles : Terms → List Entry → Type 0
Doubles terms entries = (next_number entries % 16 ≡ 0) × IsNext terms entries entry.Doubled

-- he doubles or rolls
abbrev pub DoublesOrRolls : Terms → List Entry → Action → Type 0
DoublesOrRolls terms entries action.Double = Doubles terms entries
DoublesOrRolls terms entries action.Roll = Doubles terms entries → ⊥
DoublesOrRolls terms entries _ = ⊥

-- he drops a double as an entry whose number 5 divides, and takes any other
abbrev pub answer_to_double : ℕ → Action
answer_to_double n = if n % 5 == 0 then action.Drop else action.Take

-- the whole list of the legal turns, each once, the greatest first
pub record AreLegalTurns (board : Position) (player : Player) (dice : Dice) (turns : List (List FromTo)) : Type 0 where
  pub exactly : (steps : List FromTo) → Contains turns steps ↔ IsLegalTurn board player dice steps
  pub greatest_first : AllPairs IsGreater turns

-- as entry n he plays the turn of index n mod k, from 0, of the k legal turns
abbrev pub IsTurnOf : Position → Player → Dice → ℕ → List FromTo → Type 0
IsTurnOf board player dice n turn =
    (turns : List (List FromTo)) × AreLegalTurns board player dice turns
    × (slice_get turns (n % length turns) ≡ Some turn)

abbrev pub Moves : Position → Player → Dice → ℕ → Action → Type 0
Moves board player dice n (action.Move turn) = IsTurnOf board player dice n turn
Moves board player dice n _ = ⊥

-- what the player does who acts in a phase: a case for each
abbrev pub Does : Terms → List Entry → Position → Phase → Action → Type 0
Does terms entries board phase.Opening does = ⊥
Does terms entries board (phase.ToAct p) does = DoublesOrRolls terms entries does
Does terms entries board (phase.Doubled p) does = does ≡ answer_to_double (next_number entries)
Does terms entries board (phase.ToMove p dice) does = Moves board p dice (next_number entries) does
Does terms entries board (phase.Resigned p level back) does = does ≡ action.Reject
Does terms entries board (phase.Over p) does = ⊥

-- what the player does who acts after a record, if one does
abbrev pub Plays : Log → Option Action → Type 0
Plays log None = (player : Player) → ActsAfter log.terms log.entries (Seat player) → ⊥
Plays log (Some does) =
    (s : State) × StandsAt log.terms log.entries s × Does log.terms log.entries s.board s.phase does

-- after a record this player is to move
abbrev pub IsToMove : Log → Player → Type 0
IsToMove log player =
    (s : State) × (dice : Dice) × StandsAt log.terms log.entries s × (s.phase ≡ phase.ToMove player dice)

-- what a player does after a record: nothing exactly where he does not act, or the record is full
abbrev pub IsAutoAction : Log → Player → Option Action → Type 0
IsAutoAction log player None =
    (ActsAfter log.terms log.entries (Seat player) → ⊥) ⊎ (most_entries ≤ length log.entries)
IsAutoAction log player (Some does) =
    ActsAfter log.terms log.entries (Seat player) × (length log.entries < most_entries) × Plays log (Some does)
