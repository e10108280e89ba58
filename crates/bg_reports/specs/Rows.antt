-- What `check` tells programs of a file: the fields of its row from `file` to `points`.
use Rattle.std.specs.Prelude.{◌≡◌, ◌⊎◌, ◌<◌, ℕ, ◌-◌, Bool, true, false, List, [], ◌++◌, length, slice_index_or, codes}
use Rattle.std.specs.Prelude.{Option, None, Some}
use Rattle.bg_board.specs.declared.players.Player.TheVariants.{X, O}
use Rattle.bg_match.specs.Match.{Log, StandsAt}
use Rattle.bg_match.specs.State.{State}
use Rattle.bg_match.specs.Terms.{match_length, rules_of}
use Rattle.bg_match.specs.declared.limits.Rules.{Rules}
use Rattle.bg_match.specs.declared.limits.Rules.TheVariants as rules
use Rattle.bg_match.specs.declared.phases.Phase.{Phase}
use Rattle.bg_match.specs.declared.phases.Phase.TheVariants.{Over}
use Rattle.bg_text.specs.Judge.Judging.{fault_reason, lines_of}
use Rattle.bg_text.specs.Judge.Transcripts.{ReadsTranscript, RefusesTranscript}
use Rattle.bg_text.specs.Limits.{most_bytes}
use Rattle.bg_text.specs.declared.faults.LineFault.{LineFault}
use Rattle.bg_text.specs.declared.faults.TranscriptFault.{TranscriptFault}
use Rattle.bg_text.specs.declared.faults.TranscriptFault.TheVariants as transcript_fault
use Rattle.bg_text.specs.declared.judging.verdicts.Verdict.{Verdict}
use Rattle.bg_text.specs.declared.judging.verdicts.Verdict.TheVariants.{Fine, Refused, TooLong}
use Rattle.bg_mat.specs.FaultWords.{mat_fault_words}
use Rattle.bg_mat.specs.Files.{EndsFile, Imports, lines_in}
use Rattle.bg_mat.specs.Refusals.{IsRefusal}
use Rattle.bg_mat.specs.declared.faults.ImportFault.{ImportFault}
use Rattle.bg_mat.specs.declared.faults.ImportFault.TheVariants as import_fault
use Rattle.bg_mat.specs.declared.faults.MatFault.{MatFault}
use Rattle.bg_ids.specs.MatchIds.{match_text}
use Rattle.bg_ids.specs.PositionIds.{position_text}
use Rattle.bg_ids.specs.Turns.{on_roll}
use Rattle.bg_ids.specs.Xgids.{xgid_fault, xgid_text}
use Rattle.bg_ids.specs.declared.xgids.XgidFault.{XgidFault}
use Rattle.bg_reports.specs.Check.{IsReadAsMatchFile, most_shown}
use Rattle.bg_reports.specs.Harmless.{shown, cut}
use Rattle.bg_reports.specs.RowFields.{file_field, number_field, text_field, unknown_fields}
use Rattle.bg_reports.specs.declared.rows.fields.RowForm.{RowForm}

-- the number that names rules
abbrev pub rules_number : Rules → ℕ
rules_number rules.One = 1
rules_number rules.Two = 2

-- how many entries a match has, and its length and rules
abbrev pub terms_fields : RowForm → Log → List ℕ
terms_fields form log =
    number_field form (codes "entries") (length log.entries)
    ++ number_field form (codes "length") (match_length log.terms)
    ++ number_field form (codes "rules") (rules_number (rules_of log.terms))

-- the winner of a match, by his letter, and that it is over
abbrev pub won_fields : RowForm → List ℕ → List ℕ
won_fields form letter = text_field form (codes "winner") letter ++ text_field form (codes "state") (codes "over")

-- the state of a match that nobody has won yet
abbrev pub open_fields : RowForm → List ℕ → List ℕ
open_fields form state = unknown_fields form (codes "\t") ++ text_field form (codes "state") state

-- what became of a match. A match file that is cut ends within a game
abbrev pub result_fields : RowForm → Phase → Bool → List ℕ
result_fields form (Over X) is_cut = won_fields form (codes "X")
result_fields form (Over O) is_cut = won_fields form (codes "O")
result_fields form _ true = open_fields form (codes "cut")
result_fields form _ false = open_fields form (codes "in game")

-- the score, the game, and what became of the match
abbrev pub standing_fields : RowForm → State → Bool → List ℕ
standing_fields form s is_cut =
    number_field form (codes "x") s.x_score
    ++ number_field form (codes "o") s.o_score
    ++ number_field form (codes "game") s.game
    ++ result_fields form s.phase is_cut

-- the XGID, if there is one
abbrev pub xgid_field : RowForm → Option XgidFault → State → List ℕ
xgid_field form None s = text_field form (codes "xgid") (xgid_text s)
xgid_field form (Some why) s = unknown_fields form (codes "\t")

abbrev pub position_field : RowForm → State → List ℕ
position_field form s = text_field form (codes "position_id") (position_text s.board (on_roll s.phase))

abbrev pub match_field : RowForm → State → List ℕ
match_field form s = text_field form (codes "match_id") (match_text s)

-- the IDs of a standing, as other programs read them
abbrev pub id_fields : RowForm → State → List ℕ
id_fields form s = position_field form s ++ match_field form s ++ xgid_field form (xgid_fault s.phase) s

-- by how many points the winner leads
abbrev pub points_field : RowForm → Phase → State → List ℕ
points_field form (Over X) s = number_field form (codes "points") (s.x_score - s.o_score)
points_field form (Over O) s = number_field form (codes "points") (s.o_score - s.x_score)
points_field form _ s = unknown_fields form (codes "\t")

-- a good match that stands here
abbrev pub match_fields : RowForm → Log → State → Bool → List ℕ
match_fields form log s is_cut =
    text_field form (codes "verdict") (codes "ok")
    ++ unknown_fields form (codes "\t\t\t")
    ++ terms_fields form log
    ++ standing_fields form s is_cut
    ++ id_fields form s
    ++ points_field form s.phase s

pub record AreMatchFields (form : RowForm) (log : Log) (is_cut : Bool) (fields : List ℕ) : Type 0 where
  pub state : State
  pub stands : StandsAt log.terms log.entries state
  pub told : fields ≡ match_fields form log state is_cut

-- the text of a line that is refused
abbrev pub line_field : RowForm → List ℕ → List ℕ
line_field form line = text_field form (codes "text") (cut most_shown (shown line))

-- a file whose line of this number is refused, for this reason
abbrev pub refused_fields : RowForm → ℕ → List ℕ → List ℕ → List ℕ
refused_fields form number reason line =
    text_field form (codes "verdict") (codes "refused")
    ++ number_field form (codes "line") number
    ++ text_field form (codes "reason") reason
    ++ line_field form line
    ++ unknown_fields form (codes "\t\t\t\t\t\t\t\t\t\t\t\t")

-- a file that is too long
abbrev pub too_long_fields : RowForm → List ℕ
too_long_fields form =
    text_field form (codes "verdict") (codes "refused")
    ++ unknown_fields form (codes "\t")
    ++ text_field form (codes "reason") (codes "input too long")
    ++ unknown_fields form (codes "\t\t\t\t\t\t\t\t\t\t\t\t\t")

-- the line of this number, from 1
abbrev pub line_of : List ℕ → ℕ → List ℕ
line_of bytes number = slice_index_or (lines_of bytes) (number - 1) []

-- what is told of a transcript
abbrev pub AreTranscriptFields : RowForm → List ℕ → List ℕ → Verdict → Type 0
AreTranscriptFields form bytes fields (Fine n) =
    (log : Log) × ReadsTranscript 0 bytes log × (n ≡ length log.entries) × AreMatchFields form log false fields
AreTranscriptFields form bytes fields (Refused n) =
    (why : LineFault) × RefusesTranscript (transcript_fault.Refused n why) bytes
    × (fields ≡ refused_fields form n (fault_reason why) (line_of bytes n))
AreTranscriptFields form bytes fields TooLong =
    RefusesTranscript transcript_fault.TooLong bytes × (fields ≡ too_long_fields form)

-- what is told of a match file, which is read by the first rules
abbrev pub AreMatchFileFields : RowForm → List ℕ → List ℕ → Verdict → Type 0
AreMatchFileFields form bytes fields (Fine n) =
    (log : Log) × (lines : List ℕ) × (is_cut : Bool) × Imports 0 rules.One bytes log lines
    × EndsFile (lines_in bytes) is_cut × (n ≡ length log.entries) × AreMatchFields form log is_cut fields
AreMatchFileFields form bytes fields (Refused n) =
    (why : MatFault) × IsRefusal 0 rules.One (lines_in bytes) (import_fault.Refused n why)
    × (fields ≡ refused_fields form n (mat_fault_words why) (line_of bytes n))
AreMatchFileFields form bytes fields TooLong =
    (most_bytes < length bytes) × (fields ≡ too_long_fields form)

-- what is told of a transcript with this fault
abbrev pub transcript_fault_fields : RowForm → TranscriptFault → List ℕ → List ℕ
transcript_fault_fields form (transcript_fault.Refused n why) bytes = refused_fields form n (fault_reason why) (line_of bytes n)
transcript_fault_fields form _ bytes = too_long_fields form

-- what is told of a match file with this fault
abbrev pub import_fault_fields : RowForm → ImportFault → List ℕ → List ℕ
import_fault_fields form (import_fault.Refused n why) bytes = refused_fields form n (mat_fault_words why) (line_of bytes n)
import_fault_fields form _ bytes = too_long_fields form

-- the fields of a file of this name in front of these: the name, and what kind of file it is
abbrev pub kind_row : RowForm → List ℕ → List ℕ → List ℕ → List ℕ
kind_row form name kind fields = file_field form name ++ text_field form (codes "kind") kind ++ fields

abbrev pub IsTranscriptRow : RowForm → List ℕ → List ℕ → List ℕ → Verdict → Type 0
IsTranscriptRow form name bytes row verdict =
    (fields : List ℕ) × AreTranscriptFields form bytes fields verdict
    × (row ≡ kind_row form name (codes "transcript") fields)

abbrev pub IsMatchFileRow : RowForm → List ℕ → List ℕ → List ℕ → Verdict → Type 0
IsMatchFileRow form name bytes row verdict =
    (fields : List ℕ) × AreMatchFileFields form bytes fields verdict
    × (row ≡ kind_row form name (codes "match file") fields)

-- what is told of a file
abbrev pub IsCheckRow : RowForm → List ℕ → List ℕ → List ℕ → Verdict → Type 0
IsCheckRow form name bytes row verdict =
    (IsReadAsMatchFile name bytes × IsMatchFileRow form name bytes row verdict)
    ⊎ ((IsReadAsMatchFile name bytes → ⊥) × IsTranscriptRow form name bytes row verdict)
