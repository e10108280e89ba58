-- The record of a transcript.
use Rattle.std.specs.Prelude.{◌≡◌, ◌⊎◌, ℕ, ◌+◌, ◌<◌, ◌≤◌, List, [], ◌∷◌, ◌++◌, length, slice_index_or, Option, codes}
use Rattle.bg_match.specs.Limits.{IsMatchLength}
use Rattle.bg_match.specs.Match.{Log}
use Rattle.bg_match.specs.State.{State, start_of}
use Rattle.bg_match.specs.Terms.{Terms, match_length}
use Rattle.bg_text.specs.Boards.BoardText.{board_text, line_text}
use Rattle.bg_text.specs.Boards.Transcript.{AreLinesOf, length_line}
use Rattle.bg_text.specs.Judge.Judging.{IsJudgement, IsLengthFault, IsLineFault, IsLongestPart, lines_of, refused_line}
use Rattle.bg_text.specs.Judge.Reading.{AreRead}
use Rattle.bg_text.specs.Limits.{most_bytes}
use Rattle.bg_text.specs.declared.faults.LineFault.{LineFault}
use Rattle.bg_text.specs.declared.judging.reading.ReadFault.{ReadFault}
use Rattle.bg_text.specs.declared.judging.reading.ReadFault.TheVariants as read
use Rattle.bg_text.specs.declared.faults.TranscriptFault.{TranscriptFault}
use Rattle.bg_text.specs.declared.faults.TranscriptFault.TheVariants as transcript
use Rattle.bg_text.specs.declared.judging.verdicts.Verdict.TheVariants.{Refused}

-- the record of the longest legal part of an input, and why the line behind that is refused, if one
-- is
pub record IsReadOf (id : ℕ) (input : List ℕ) (r : Log) (why : Option LineFault) : Type 0 where
  pub short : length input ≤ most_bytes
  pub terms : Terms
  pub points : IsMatchLength (match_length terms)
  pub lines : List (List ℕ)
  pub split : lines_of input ≡ length_line terms ∷ lines
  pub read : AreRead id terms lines r why

-- why no line behind line 1 is read
abbrev pub IsUnread : ReadFault → List ℕ → Type 0
IsUnread read.TooLong input = most_bytes < length input
IsUnread (read.LengthLine why) input = (length input ≤ most_bytes) × IsLengthFault why (lines_of input)
IsUnread read.Memory input = Unit {0}

-- what becomes of an input of which no line behind line 1 is read
abbrev pub fault_of_read : ReadFault → TranscriptFault
fault_of_read read.TooLong = transcript.TooLong
fault_of_read (read.LengthLine why) = transcript.Refused 1 why
fault_of_read read.Memory = transcript.Memory

-- the lines of the input are those of the record: its terms, and then its entries
pub record ReadsTranscript (id : ℕ) (input : List ℕ) (r : Log) : Type 0 where
  pub short : length input ≤ most_bytes
  pub points : IsMatchLength (match_length r.terms)
  pub lines : List (List ℕ)
  pub split : lines_of input ≡ length_line r.terms ∷ lines
  pub state : State
  pub entries : AreLinesOf (start_of r.terms) r.entries lines state
  pub same_id : r.id ≡ id

-- the line behind the longest legal part of these is refused, and why; its number counts from line
-- 1, which stands before them
pub record IsRefusedBehind (terms : Terms) (lines : List (List ℕ)) (number : ℕ) (why : LineFault) : Type 0 where
  pub count : ℕ
  pub state : State
  pub longest : IsLongestPart terms lines count state
  pub more : count < length lines
  pub fault : IsLineFault why count state (slice_index_or lines count [])
  pub number_is : number ≡ count + 2

-- the first of the lines that is refused, from 1, and why, as the judge has it: line 1, or the one
-- behind the longest legal part of the others
abbrev pub IsFirstRefused : List (List ℕ) → ℕ → LineFault → Type 0
IsFirstRefused lines number why =
    (IsLengthFault why lines × (number ≡ 1))
    ⊎ ((terms : Terms) × (behind : List (List ℕ)) × IsMatchLength (match_length terms)
    × (lines ≡ length_line terms ∷ behind) × IsRefusedBehind terms behind number why)

-- why a transcript gives no record
abbrev pub RefusesTranscript : TranscriptFault → List ℕ → Type 0
RefusesTranscript (transcript.Refused number why) input =
    (length input ≤ most_bytes) × IsFirstRefused (lines_of input) number why
RefusesTranscript transcript.TooLong input = most_bytes < length input
RefusesTranscript transcript.Memory input = Unit {0}

-- that in words, as the judge's last line has them
abbrev pub transcript_fault_words : TranscriptFault → List ℕ
transcript_fault_words (transcript.Refused number why) = refused_line number why
transcript_fault_words transcript.TooLong = codes "refused: input too long"
transcript_fault_words transcript.Memory = codes "out of memory"

-- what the judge writes before its verdict line: where the lines lead, or nothing where line 1 is
-- refused
abbrev pub IsBoardBefore : List ℕ → Type 0
IsBoardBefore board = (board ≡ []) ⊎ ((s : State) × (board ≡ board_text s))

-- a transcript gives no record where the judge refuses it, and for the reason that he says last
abbrev pub TranscriptFaultsAreJudged : Type 0
TranscriptFaultsAreJudged =
    (input : List ℕ) (number : ℕ) (why : LineFault) → RefusesTranscript (transcript.Refused number why) input
    → (board : List ℕ) × IsBoardBefore board
    × IsJudgement input (board ++ line_text (refused_line number why)) (Refused number)
