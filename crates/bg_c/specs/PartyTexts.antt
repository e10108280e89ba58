-- The texts that are made of a party's record.
use Rattle.std.specs.Prelude.{◌≡◌, ◌⊎◌, ℕ, ◌-◌, ◌≤◌, None, Some, Result, Ok, Err}
use Rattle.std.specs.Global.{Vec}
use Rattle.bg_board.specs.declared.players.Player.{Player}
use Rattle.bg_turns.specs.declared.throws.Dice.{Dice}
use Rattle.bg_match.specs.State.{State}
use Rattle.bg_parties.specs.Calls.{log_of}
use Rattle.bg_text.specs.Boards.BoardText.{board_text}
use Rattle.bg_text.specs.Boards.Transcript.{IsTranscript}
use Rattle.bg_c.specs.EntryLines.{HasLines}
use Rattle.bg_c.specs.Handle.{Held}
use Rattle.bg_c.specs.PartyCalls.{PartyStands}
use Rattle.bg_c.specs.Turns.{IsTurnsText, mover_of}
use Rattle.bg_c.specs.declared.statuses.Status.{Status}
use Rattle.bg_c.specs.declared.statuses.Status.TheVariants.{BadArgument, Memory, NotToMove}

-- its board, or there was no memory for it
abbrev pub MakesBoard : Held → Result (Vec ℕ) Status → Type 0
MakesBoard party (Ok text) = (s : State) × PartyStands party s × (text.items ≡ board_text s)
MakesBoard party (Err why) = why ≡ Memory

-- its transcript, or there was no memory for it
abbrev pub MakesTranscript : Held → Result (Vec ℕ) Status → Type 0
MakesTranscript party (Ok text) = IsTranscript (log_of party.core).terms (log_of party.core).entries text.items
MakesTranscript party (Err why) = why ≡ Memory

-- the legal turns of the player to move; or none is to move, or there was no memory for them
abbrev pub MakesTurns : Held → Result (Vec ℕ) Status → Type 0
MakesTurns party (Ok text) =
    (s : State) × (mover : Player × Dice) × PartyStands party s × (mover_of s ≡ Some mover)
    × IsTurnsText s.board mover text.items
MakesTurns party (Err why) =
    (why ≡ Memory) ⊎ ((why ≡ NotToMove) × ((s : State) × PartyStands party s × (mover_of s ≡ None)))

-- the lines of at most so many entries behind those that are skipped, or there was no memory for
-- them
abbrev pub MakesLines : Held → ℕ → ℕ → Result (Vec ℕ) Status → Type 0
MakesLines party skipped count (Ok text) = HasLines (log_of party.core) skipped count text.items
MakesLines party skipped count (Err why) = why ≡ Memory

-- those from this number on: entries are numbered from 1
pub record MakesEntries (party : Held) (from count : ℕ) (made : Result (Vec ℕ) Status) : Type 0 where
  pub lines : 1 ≤ from → MakesLines party (from - 1) count made
  pub none : from ≡ 0 → made ≡ Err BadArgument
