-- The texts that are made of a transcript.
use Rattle.std.specs.Prelude.{◌≡◌, ◌⊎◌, ℕ, List, None, Some, Result, Ok, Err}
use Rattle.std.specs.Global.{Vec}
use Rattle.bg_board.specs.declared.players.Player.{Player}
use Rattle.bg_turns.specs.declared.throws.Dice.{Dice}
use Rattle.bg_match.specs.Match.{Log, StandsAt}
use Rattle.bg_match.specs.State.{State}
use Rattle.bg_text.specs.Boards.BoardText.{board_text}
use Rattle.bg_text.specs.Judge.Transcripts.{ReadsTranscript, RefusesTranscript}
use Rattle.bg_text.specs.declared.faults.TranscriptFault.{TranscriptFault}
use Rattle.bg_text.specs.declared.faults.TranscriptFault.TheVariants as fault
use Rattle.bg_c.specs.Turns.{IsTurnsText, mover_of}
use Rattle.bg_c.specs.declared.statuses.Status.{Status}
use Rattle.bg_c.specs.declared.statuses.Status.TheVariants as status

-- the status of a transcript that gives no record
abbrev pub transcript_status : TranscriptFault → Status
transcript_status (fault.Refused number why) = status.Refused
transcript_status fault.TooLong = status.Refused
transcript_status fault.Memory = status.Memory

-- the entries of a transcript lead to s
abbrev pub LeadsTo : List ℕ → State → Type 0
LeadsTo transcript s = (r : Log) × ReadsTranscript 0 transcript r × StandsAt r.terms r.entries s

-- the judge does not find it fine
abbrev pub IsNotFine : List ℕ → Status → Type 0
IsNotFine transcript why =
    (refusal : TranscriptFault) × RefusesTranscript refusal transcript × (why ≡ transcript_status refusal)

-- the board after a transcript
abbrev pub MakesBoardAfter : List ℕ → Result (Vec ℕ) Status → Type 0
MakesBoardAfter transcript (Ok text) = (s : State) × LeadsTo transcript s × (text.items ≡ board_text s)
MakesBoardAfter transcript (Err why) = (why ≡ status.Memory) ⊎ IsNotFine transcript why

-- the legal turns of the player to move after a transcript
abbrev pub MakesTurnsAfter : List ℕ → Result (Vec ℕ) Status → Type 0
MakesTurnsAfter transcript (Ok text) =
    (s : State) × (mover : Player × Dice) × LeadsTo transcript s × (mover_of s ≡ Some mover)
    × IsTurnsText s.board mover text.items
MakesTurnsAfter transcript (Err why) =
    (why ≡ status.Memory) ⊎ IsNotFine transcript why
    ⊎ ((why ≡ status.NotToMove) × ((s : State) × LeadsTo transcript s × (mover_of s ≡ None)))
