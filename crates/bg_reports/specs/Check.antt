-- What `check` prints of a file.
use Rattle.std.specs.Prelude.{◌≡◌, ◌⊎◌, ◌==◌, ◌<◌, ℕ, ◌-◌, Bool, false, List, [], ◌++◌, length, slice_index_or, Option, None, Some}
use Rattle.std.specs.Prelude.{codes, if◌then◌else◌, ◌&&◌, not, nat_eq, IsTrue}
use Rattle.std.specs.List.{ends_with, starts_with}
use Rattle.bg_match.specs.Match.{Log}
use Rattle.bg_match.specs.declared.limits.Rules.TheVariants as rules
use Rattle.bg_text.specs.Boards.BoardText.{line_text}
use Rattle.bg_text.specs.Judge.Judging.{lines_of}
use Rattle.bg_text.specs.Judge.Transcripts.{ReadsTranscript, RefusesTranscript, transcript_fault_words}
use Rattle.bg_text.specs.Limits.{most_bytes}
use Rattle.bg_text.specs.declared.faults.LineFault.{LineFault}
use Rattle.bg_text.specs.declared.faults.TranscriptFault.{TranscriptFault}
use Rattle.bg_text.specs.declared.faults.TranscriptFault.TheVariants as transcript_fault
use Rattle.bg_text.specs.declared.judging.verdicts.Verdict.{Verdict}
use Rattle.bg_text.specs.declared.judging.verdicts.Verdict.TheVariants.{Fine, Refused, TooLong}
use Rattle.bg_mat.specs.FaultWords.{import_fault_words}
use Rattle.bg_mat.specs.Files.{BeginAsMatchFile, EndsFile, Imports, lines_in}
use Rattle.bg_mat.specs.Refusals.{IsRefusal}
use Rattle.bg_mat.specs.declared.faults.ImportFault.{ImportFault}
use Rattle.bg_mat.specs.declared.faults.ImportFault.TheVariants as import_fault
use Rattle.bg_mat.specs.declared.faults.MatFault.{MatFault}
use Rattle.bg_reports.specs.Harmless.{shown, cut}
use Rattle.bg_reports.specs.Result.{IsSaidOfMatch}

-- so many columns of a refused line are shown where there is no screen
abbrev pub most_shown : ℕ
most_shown = 1000

-- the columns that are left of a screen behind so many
abbrev pub room_in : Option ℕ → ℕ → ℕ
room_in None taken = most_shown
room_in (Some columns) taken = columns - taken

-- the line that is refused, and nothing where none is
abbrev pub refused_in : Verdict → List (List ℕ) → List ℕ
refused_in (Refused number) lines = slice_index_or lines (number - 1) []
refused_in verdict lines = []

-- a refused line behind its verdict, in so many columns; nothing where nothing of it can be seen
abbrev pub refused_part : ℕ → List ℕ → List ℕ
refused_part room line =
    let part = cut (room - 2) (shown line) in if length part == 0 then [] else codes ": " ++ part

-- a file's name, its verdict, and the line that is refused, on a screen of so many columns
abbrev pub check_line : List ℕ → List ℕ → List ℕ → Option ℕ → List ℕ
check_line name words line columns =
    let front = name ++ codes ": " ++ words in front ++ refused_part (room_in columns (length front)) line

-- what is said of a transcript: how many entries its match has and what became of it, or why it has
-- none
abbrev pub IsTranscriptVerdict : List ℕ → List ℕ → Verdict → Type 0
IsTranscriptVerdict bytes words (Fine n) =
    (log : Log) × ReadsTranscript 0 bytes log × (n ≡ length log.entries) × IsSaidOfMatch log false words
IsTranscriptVerdict bytes words (Refused n) =
    (why : LineFault) × RefusesTranscript (transcript_fault.Refused n why) bytes
    × (words ≡ transcript_fault_words (transcript_fault.Refused n why))
IsTranscriptVerdict bytes words TooLong =
    RefusesTranscript transcript_fault.TooLong bytes × (words ≡ transcript_fault_words transcript_fault.TooLong)

-- what is said of a match file, which is read by the first rules: how many entries its match has
-- and what became of it, or why it has none. It is cut where it ends within a game
abbrev pub IsMatchFileVerdict : List ℕ → List ℕ → Verdict → Type 0
IsMatchFileVerdict bytes words (Fine n) =
    (log : Log) × (lines : List ℕ) × (is_cut : Bool) × Imports 0 rules.One bytes log lines
    × EndsFile (lines_in bytes) is_cut × (n ≡ length log.entries) × IsSaidOfMatch log is_cut words
IsMatchFileVerdict bytes words (Refused n) =
    (why : MatFault) × IsRefusal 0 rules.One (lines_in bytes) (import_fault.Refused n why)
    × (words ≡ import_fault_words (import_fault.Refused n why))
IsMatchFileVerdict bytes words TooLong =
    (most_bytes < length bytes) × (words ≡ import_fault_words import_fault.TooLong)

-- what the fault of a match file comes to; want of memory is no verdict
abbrev pub import_verdict : ImportFault → Option Verdict
import_verdict (import_fault.Refused line why) = Some (Refused line)
import_verdict import_fault.TooLong = Some TooLong
import_verdict import_fault.Memory = None

-- what the fault of a transcript comes to; want of memory is no verdict
abbrev pub transcript_verdict : TranscriptFault → Option Verdict
transcript_verdict (transcript_fault.Refused line why) = Some (Refused line)
transcript_verdict transcript_fault.TooLong = Some TooLong
transcript_verdict transcript_fault.Memory = None

-- what is printed of a file of this name, of which these words are said, on a screen of so many
-- columns
abbrev pub printed_line : List ℕ → List ℕ → Verdict → List ℕ → Option ℕ → List ℕ
printed_line name words verdict bytes columns =
    line_text (check_line name words (refused_in verdict (lines_of bytes)) columns)

-- what is printed of a transcript
abbrev pub IsTranscriptText : List ℕ → List ℕ → Option ℕ → List ℕ → Verdict → Type 0
IsTranscriptText name bytes columns text verdict =
    (words : List ℕ) × IsTranscriptVerdict bytes words verdict
    × (text ≡ printed_line name words verdict bytes columns)

-- what is printed of a transcript with this fault
abbrev pub IsTranscriptFaultText : List ℕ → List ℕ → TranscriptFault → Option ℕ → List ℕ → Verdict → Type 0
IsTranscriptFaultText name bytes fault columns text verdict =
    (transcript_verdict fault ≡ Some verdict)
    × (text ≡ printed_line name (transcript_fault_words fault) verdict bytes columns)

-- the report by the fault is one on the transcript
abbrev pub TranscriptFaultsAreSaid : Type 0
TranscriptFaultsAreSaid =
    (name bytes : List ℕ) (fault : TranscriptFault) (columns : Option ℕ) (text : List ℕ) (verdict : Verdict)
    → RefusesTranscript fault bytes → IsTranscriptFaultText name bytes fault columns text verdict
    → IsTranscriptText name bytes columns text verdict

-- what is printed of a match file
abbrev pub IsMatchFileText : List ℕ → List ℕ → Option ℕ → List ℕ → Verdict → Type 0
IsMatchFileText name bytes columns text verdict =
    (words : List ℕ) × IsMatchFileVerdict bytes words verdict
    × (text ≡ printed_line name words verdict bytes columns)

-- what is printed of a match file with this fault
abbrev pub IsImportFaultText : List ℕ → List ℕ → ImportFault → Option ℕ → List ℕ → Verdict → Type 0
IsImportFaultText name bytes fault columns text verdict =
    (import_verdict fault ≡ Some verdict)
    × (text ≡ printed_line name (import_fault_words fault) verdict bytes columns)

-- the report by the fault is one on the match file
abbrev pub ImportFaultsAreSaid : Type 0
ImportFaultsAreSaid =
    (name bytes : List ℕ) (fault : ImportFault) (columns : Option ℕ) (text : List ℕ) (verdict : Verdict)
    → IsRefusal 0 rules.One (lines_in bytes) fault → (fault ≡ import_fault.TooLong → most_bytes < length bytes)
    → IsImportFaultText name bytes fault columns text verdict → IsMatchFileText name bytes columns text verdict

-- the name is that of a match file, and the first bytes aren't those of a transcript
abbrev pub is_named_match_file : List ℕ → List ℕ → Bool
is_named_match_file name bytes =
    ends_with nat_eq name (codes ".mat") && not (starts_with nat_eq bytes (codes "length "))

-- a file is read as a match file where its first line that tells something is the length of a
-- match, or by its name
abbrev pub IsReadAsMatchFile : List ℕ → List ℕ → Type 0
IsReadAsMatchFile name bytes = BeginAsMatchFile (lines_in bytes) ⊎ IsTrue (is_named_match_file name bytes)

-- what is printed of a file: it is read as a match file, or else as a transcript
abbrev pub IsCheckText : List ℕ → List ℕ → Option ℕ → List ℕ → Verdict → Type 0
IsCheckText name bytes columns text verdict =
    (IsReadAsMatchFile name bytes × IsMatchFileText name bytes columns text verdict)
    ⊎ ((IsReadAsMatchFile name bytes → ⊥) × IsTranscriptText name bytes columns text verdict)
