-- Match files of other programs, from and to transcripts.
use Rattle.std.specs.Prelude.{◌≡◌, ◌⊎◌, ◌<◌, ℕ, List, length, Result, Ok, Err, MatchOption}
use Rattle.std.specs.Global.{Vec}
use Rattle.bg_match.specs.Match.{Log}
use Rattle.bg_match.specs.declared.limits.Rules.{Rules}
use Rattle.bg_mat.specs.Files.{Imports, lines_in}
use Rattle.bg_mat.specs.Refusals.{IsRefusal}
use Rattle.bg_mat.specs.declared.faults.ImportFault.{ImportFault}
use Rattle.bg_mat.specs.declared.faults.ImportFault.TheVariants as fault
use Rattle.bg_text.specs.Boards.Transcript.{IsTranscript}
use Rattle.bg_text.specs.Judge.Transcripts.{ReadsTranscript}
use Rattle.bg_text.specs.Limits.{most_bytes}
use Rattle.bg_text.specs.declared.judging.verdicts.Verdict.TheVariants.{Fine, Refused, TooLong}
use Rattle.bg_c.specs.Rooms.{PutsText}
use Rattle.bg_c.specs.Status.{status_code}
use Rattle.bg_c.specs.Terms.{rules_numbered}
use Rattle.bg_c.specs.Transcripts.{IsNotFine}
use Rattle.bg_c.specs.Verdicts.{verdict_fields}
use Rattle.bg_c.specs.declared.judge.VerdictFields.{VerdictFields}
use Rattle.bg_c.specs.declared.statuses.Status.{Status}
use Rattle.bg_c.specs.declared.statuses.Status.TheVariants as status

-- ---- to a transcript

-- the transcript of the match that a file tells under these rules, and how many entries it has; or
-- why the file gives no match
abbrev pub MakesImport : Rules → List ℕ → Result (Vec ℕ × ℕ) ImportFault → Type 0
MakesImport rules file (Ok made) =
    (log : Log) × (lines : List ℕ) × Imports 0 rules file log lines
    × IsTranscript log.terms log.entries made.0.items × (made.1 ≡ length log.entries)
MakesImport rules file (Err why) =
    IsRefusal 0 rules (lines_in file) why × (why ≡ fault.TooLong → most_bytes < length file)

-- the status of a match file that gives no match
abbrev pub import_status : ImportFault → Status
import_status (fault.Refused line why) = status.Refused
import_status fault.TooLong = status.Refused
import_status fault.Memory = status.Memory

-- the verdict on it; where there was no memory, it is as before
abbrev pub verdict_after : ImportFault → VerdictFields → VerdictFields
verdict_after (fault.Refused line why) before = verdict_fields (Refused line)
verdict_after fault.TooLong before = verdict_fields TooLong
verdict_after fault.Memory before = before

-- the transcript is put into the room, and the verdict says how many entries it has; or the verdict
-- says which line of the file is refused
abbrev pub GivesImport
    : Result (Vec ℕ × ℕ) ImportFault → VerdictFields → List ℕ → ℕ → ℕ → VerdictFields → List ℕ → ℕ → Type 0
GivesImport (Ok made) before room needed_before code verdict new needed =
    (answer : Status) × PutsText made.0.items room answer new needed × (code ≡ status_code answer)
    × (verdict ≡ verdict_fields (Fine made.1))
GivesImport (Err why) before room needed_before code verdict new needed =
    (code ≡ status_code (import_status why)) × (verdict ≡ verdict_after why before) × (new ≡ room)
    × (needed ≡ needed_before)

-- the rules are looked at first
abbrev pub ImportsFile
    : ℕ → List ℕ → VerdictFields → List ℕ → ℕ → ℕ → VerdictFields → List ℕ → ℕ → Type 0
ImportsFile rules file before room needed_before code verdict new needed =
    MatchOption (rules_numbered rules)
    ((code ≡ status_code status.BadArgument) × (verdict ≡ before) × (new ≡ room) × (needed ≡ needed_before))
    (λ by. (made : Result (Vec ℕ × ℕ) ImportFault) × MakesImport by file made
    × GivesImport made before room needed_before code verdict new needed)

-- ---- from a transcript

-- a text of this kind of the match that a transcript has; or the judge does not find it fine, or
-- there was no memory
abbrev pub MakesOfTranscript : (Log → List ℕ → Type 0) → List ℕ → Result (Vec ℕ) Status → Type 0
MakesOfTranscript IsOf transcript (Ok text) = (r : Log) × ReadsTranscript 0 transcript r × IsOf r text.items
MakesOfTranscript IsOf transcript (Err why) = (why ≡ status.Memory) ⊎ IsNotFine transcript why
