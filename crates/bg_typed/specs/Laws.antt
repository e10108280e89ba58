-- Laws of typed turns.
use Rattle.std.specs.Prelude.{◌≡◌, ◌≢◌, ℕ, List, ◌∷◌, ◌++◌, Some}
use Rattle.bg_board.specs.FromTo.{FromTo}
use Rattle.bg_board.specs.Position.{Position, IsPosition}
use Rattle.bg_board.specs.declared.players.Player.{Player}
use Rattle.bg_turns.specs.Turn.{IsLegalTurn}
use Rattle.bg_turns.specs.declared.throws.Dice.{Dice}
use Rattle.bg_match.specs.declared.entries.Entry.TheVariants as entry
use Rattle.bg_text.specs.Entries.EntryText.{entry_text, letter}
use Rattle.bg_typed.specs.Meanings.{MeansTurn}
use Rattle.bg_typed.specs.TypedFaults.{IsTypedFault}
use Rattle.bg_typed.specs.declared.faults.TypedFault.{TypedFault}
use Rattle.bg_typed.specs.declared.faults.TypedFault.TheVariants as typed_fault

-- a legal turn is meant by what its line has behind the player's letter and a space
abbrev pub PrintedTurnsMeanThemselves : Type 0
PrintedTurnsMeanThemselves =
    (board : Position) (player : Player) (dice : Dice) (turn : List FromTo) (typed : List ℕ) → IsPosition board
    → IsLegalTurn board player dice turn → entry_text (Some player) (entry.Moved turn) ≡ letter player ++ 32 ∷ typed
    → MeansTurn board player dice typed turn

-- each turn that is meant is legal
abbrev pub TypedTurnsAreLegal : Type 0
TypedTurnsAreLegal =
    (board : Position) (player : Player) (dice : Dice) (typed : List ℕ) (turn : List FromTo)
    → MeansTurn board player dice typed turn → IsLegalTurn board player dice turn

-- what is typed means one turn at most, and is then refused for want of memory alone
abbrev pub TypedTurnsMeanOne : Type 0
TypedTurnsMeanOne =
    (board : Position) (player : Player) (dice : Dice) (typed : List ℕ) (turn : List FromTo)
    → MeansTurn board player dice typed turn
    → ((other : List FromTo) → MeansTurn board player dice typed other → other ≡ turn)
    × ((fault : TypedFault) → IsTypedFault board player dice typed fault → fault ≡ typed_fault.Memory)

-- what is typed is refused for one reason at most, but for want of memory
abbrev pub TypedFaultsDiffer : Type 0
TypedFaultsDiffer =
    (board : Position) (player : Player) (dice : Dice) (typed : List ℕ) (fault other : TypedFault)
    → IsTypedFault board player dice typed fault → IsTypedFault board player dice typed other
    → fault ≢ typed_fault.Memory → other ≢ typed_fault.Memory → fault ≡ other
