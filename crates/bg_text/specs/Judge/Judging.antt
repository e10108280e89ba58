-- What the judge says of an input.
use Rattle.std.specs.Prelude.{◌≡◌, ◌≢◌, ◌==◌, ◌⊎◌, ◌↔◌, ℕ, ◌+◌, ◌<◌, ◌≤◌, List, [], ◌∷◌, ◌++◌, length, take}
use Rattle.std.specs.Prelude.{slice_index_or, Option, Some, IsTrue, codes, if◌then◌else◌}
use Rattle.std.specs.List.{onto_first}
use Rattle.std.specs.Fmt.{decimal}
use Rattle.std.specs.Str.{all_ascii_digits}
use Rattle.bg_match.specs.Terms.{Terms, match_length}
use Rattle.bg_board.specs.declared.players.Player.{Player}
use Rattle.bg_match.specs.State.{State, start_of}
use Rattle.bg_match.specs.Limits.{most_entries, shortest_match, longest_match, IsMatchLength}
use Rattle.bg_match.specs.Actor.{actor_of, seat_of}
use Rattle.bg_match.specs.Follows.{IsEntryFault}
use Rattle.bg_match.specs.Entry.{IsEntry}
use Rattle.bg_match.specs.Match.{StandsAt}
use Rattle.bg_match.specs.declared.limits.Rules.{Rules}
use Rattle.bg_match.specs.declared.entries.Entry.{Entry}
use Rattle.bg_match.specs.declared.entries.EntryFault.{EntryFault}
use Rattle.bg_match.specs.declared.entries.EntryFault.TheVariants.{RecordFull}
use Rattle.bg_text.specs.Boards.BoardText.{line_text, board_text}
use Rattle.bg_text.specs.Entries.EntryText.{entry_text, IsSeatOf}
use Rattle.bg_text.specs.Entries.EntryShape.{IsEntryTextFault}
use Rattle.bg_text.specs.Judge.Reason.{reason, text_reason}
use Rattle.bg_text.specs.Boards.TermsText.{rules_mark}
use Rattle.bg_text.specs.Boards.Transcript.{AreLinesOf, IsTranscript, length_line}
use Rattle.bg_text.specs.Limits.{most_bytes}
use Rattle.bg_text.specs.declared.faults.LineFault.{LineFault}
use Rattle.bg_text.specs.declared.faults.LineFault.TheVariants as fault
use Rattle.bg_text.specs.declared.judging.verdicts.Verdict.{Verdict}
use Rattle.bg_text.specs.declared.judging.verdicts.Verdict.TheVariants.{Fine, Refused, TooLong}

-- the lines of an input, each without its line feed; one at the end opens no further line
abbrev pub lines_of : List ℕ → List (List ℕ)
lines_of [] = []
lines_of (byte ∷ bytes) = if byte == 10 then [] ∷ lines_of bytes else onto_first byte (lines_of bytes)

-- one to three digits
pub record AreLengthDigits (digits : List ℕ) : Type 0 where
  pub decimal_digits : IsTrue (all_ascii_digits digits)
  pub some : 1 ≤ length digits
  pub three : length digits ≤ 3

-- digits that are not the number of a length
abbrev pub IsDigitsFault : LineFault → List ℕ → Type 0
IsDigitsFault fault.NotALengthLine digits = AreLengthDigits digits → ⊥
IsDigitsFault fault.LengthOutOfRange digits =
    AreLengthDigits digits × ((n : ℕ) → shortest_match ≤ n → n ≤ longest_match → digits ≡ decimal n → ⊥)
IsDigitsFault _ digits = ⊥

-- what is wrong with line 1, or that there is none: the word length, a space, one to three digits
-- and the mark of the rules are its shape
abbrev pub IsLengthFault : LineFault → List (List ℕ) → Type 0
IsLengthFault fault.NotALengthLine [] = Unit {0}
IsLengthFault fault.NotALengthLine (line ∷ lines) =
    (digits : List ℕ) (rules : Rules) → line ≡ codes "length " ++ digits ++ rules_mark rules
    → AreLengthDigits digits → ⊥
IsLengthFault fault.LengthOutOfRange (line ∷ lines) =
    (digits : List ℕ) × (rules : Rules) × (line ≡ codes "length " ++ digits ++ rules_mark rules)
    × IsDigitsFault fault.LengthOutOfRange digits
IsLengthFault _ lines = ⊥

-- the line names a seat where another must act
abbrev pub IsWrongSeat : Option Player → State → Type 0
IsWrongSeat seat s = (p q : Player) × (seat ≡ Some p) × (seat_of (actor_of s) ≡ Some q) × (p ≢ q)

-- why an entry can't follow n entries that lead to s
abbrev pub IsRefusal : EntryFault → ℕ → State → Entry → Type 0
IsRefusal RecordFull n s e = most_entries ≤ n
IsRefusal why n s e = (n < most_entries) × IsEntryFault why s e

-- why a line can't follow n entries that lead to s, by the first of three tests that fails: its
-- text, its seat, its entry
abbrev pub IsLineFault : LineFault → ℕ → State → List ℕ → Type 0
IsLineFault (fault.Text why) n s line = IsEntryTextFault why line
IsLineFault fault.WrongPlayer n s line =
    (seat : Option Player) × (e : Entry) × IsSeatOf seat e × IsEntry e × (line ≡ entry_text seat e) × IsWrongSeat seat s
IsLineFault (fault.Entry why) n s line =
    (seat : Option Player) × (e : Entry) × IsSeatOf seat e × IsEntry e × (line ≡ entry_text seat e)
    × (IsWrongSeat seat s → ⊥) × IsRefusal why n s e
IsLineFault _ n s line = ⊥

-- the first n lines are those of a legal record of a match of these terms, which stands at t
abbrev pub StandsAfter : Terms → List (List ℕ) → ℕ → State → Type 0
StandsAfter terms lines n t =
    (n ≤ length lines) × (n ≤ most_entries)
    × ((entries : List Entry) × AreLinesOf (start_of terms) entries (take n lines) t)

-- n is the greatest number of first lines that are those of a legal record
pub record IsLongestPart (terms : Terms) (lines : List (List ℕ)) (n : ℕ) (t : State) : Type 0 where
  pub stands : StandsAfter terms lines n t
  pub longest : (m : ℕ) (s : State) → StandsAfter terms lines m s → m ≤ n

abbrev pub fault_reason : LineFault → List ℕ
fault_reason fault.NotALengthLine = codes "not a length line"
fault_reason fault.LengthOutOfRange = codes "length out of range"
fault_reason (fault.Text why) = text_reason why
fault_reason fault.WrongPlayer = codes "wrong player"
fault_reason (fault.Entry why) = reason why

-- the verdict line: a number of entries, or the number of a line, from 1, and a reason
abbrev pub fine_line : ℕ → List ℕ
fine_line n = codes "ok " ++ decimal n

abbrev pub refused_line : ℕ → LineFault → List ℕ
refused_line number why = codes "refused at line " ++ decimal number ++ codes ": " ++ fault_reason why

-- the verdict and its line, where n of the lines after line 1 are a legal record that stands at t
abbrev pub IsVerdict : Verdict → List ℕ → List (List ℕ) → ℕ → State → Type 0
IsVerdict (Fine entries) line lines n t = (n ≡ length lines) × (entries ≡ n) × (line ≡ fine_line n)
IsVerdict (Refused number) line lines n t =
    (n < length lines) × (number ≡ n + 2)
    × ((why : LineFault) × IsLineFault why n t (slice_index_or lines n []) × (line ≡ refused_line number why))
IsVerdict TooLong line lines n t = ⊥

-- the text and the verdict on a transcript: the board after its longest legal part, and the verdict
-- line
pub record IsJudged (terms : Terms) (lines : List (List ℕ)) (text : List ℕ) (verdict : Verdict) : Type 0 where
  pub count : ℕ
  pub state : State
  pub longest : IsLongestPart terms lines count state
  pub line : List ℕ
  pub named : IsVerdict verdict line lines count state
  pub printed : text ≡ board_text state ++ line_text line

-- the text and the verdict where line 1 is refused
pub record IsRefusedAtOnce (lines : List (List ℕ)) (text : List ℕ) (verdict : Verdict) : Type 0 where
  pub why : LineFault
  pub fault : IsLengthFault why lines
  pub printed : text ≡ line_text (refused_line 1 why)
  pub first : verdict ≡ Refused 1

-- the text and the verdict where the input is longer than the limit
pub record IsTooLong (text : List ℕ) (verdict : Verdict) : Type 0 where
  pub printed : text ≡ line_text (codes "refused: input too long")
  pub too_long : verdict ≡ TooLong

-- what the judge writes and answers of the lines of an input
abbrev pub IsAnswerTo : List (List ℕ) → List ℕ → Verdict → Type 0
IsAnswerTo [] text verdict = IsRefusedAtOnce [] text verdict
IsAnswerTo (line ∷ lines) text verdict =
    IsRefusedAtOnce (line ∷ lines) text verdict
    ⊎ ((terms : Terms) × IsMatchLength (match_length terms) × (line ≡ length_line terms)
    × IsJudged terms lines text verdict)

abbrev pub IsJudgement : List ℕ → List ℕ → Verdict → Type 0
IsJudgement input text verdict =
    ((most_bytes < length input) × IsTooLong text verdict)
    ⊎ ((length input ≤ most_bytes) × IsAnswerTo (lines_of input) text verdict)

-- what the judge says of a transcript is this alone: the board where its entries lead, and that
-- they are fine, so many
abbrev pub TranscriptsAreFine : Type 0
TranscriptsAreFine =
    (terms : Terms) (entries : List Entry) (t : State) (input text : List ℕ) (verdict : Verdict)
    → IsMatchLength (match_length terms) → length entries ≤ most_entries
    → StandsAt terms entries t → IsTranscript terms entries input
    → IsJudgement input text verdict
    ↔ ((verdict ≡ Fine (length entries)) × (text ≡ board_text t ++ line_text (fine_line (length entries))))

-- an input has one judgement
abbrev pub JudgementsAgree : Type 0
JudgementsAgree =
    (input text other : List ℕ) (verdict another : Verdict) → IsJudgement input text verdict
    → IsJudgement input other another → (text ≡ other) × (verdict ≡ another)
