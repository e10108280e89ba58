-- A transcript is judged fine.
use Rattle.std.proofs.Common.{◌≡◌, ℕ, ◌≤◌, List, ◌∷◌, ◌++◌, length, take, refl, sym, ◌∙◌, ap, subst, arith, inl, inr}
use Rattle.std.specs.List.{AllByRecursion}
use Rattle.std.proofs.Math.Seq.{take-length}
use Rattle.bg_match.specs.State.{State, start_of}
use Rattle.bg_match.specs.declared.entries.Entry.{Entry}
use Rattle.bg_match.specs.Limits.{most_entries, IsMatchLength}
use Rattle.bg_match.specs.Match.{StandsAt}
use Rattle.bg_match.specs.Terms.{Terms, match_length}
use Rattle.bg_match.proofs.Legal.{one_standing}
use Rattle.bg_text.specs.Boards.BoardText.{board_text, line_text}
use Rattle.bg_text.specs.Boards.Transcript.{AreLinesOf, IsTranscript, length_line}
use Rattle.bg_text.specs.Judge.Judging.{lines_of, fine_line, StandsAfter, IsVerdict, IsJudged, IsAnswerTo, IsJudgement, TranscriptsAreFine}
use Rattle.bg_text.specs.Limits.{most_bytes}
use Rattle.bg_text.specs.declared.judging.verdicts.Verdict.{Verdict}
use Rattle.bg_text.specs.declared.judging.verdicts.Verdict.TheVariants.{Fine, Refused, TooLong}
use Rattle.bg_text.proofs.Judged.LengthLines.{no_length_fault, one_length}
use Rattle.bg_text.proofs.Judged.ShortLines.{IsShortLine, lines_short, lines_of-text, text_length, length_line_short}
use Rattle.bg_text.proofs.Judged.ReadLines.{AreLinesOf-Leads, AreLinesOf-length, AreLinesOf-same}

module _ (terms : Terms) (entries : List Entry) (lines : List (List ℕ)) (t : State) (few : length entries ≤ most_entries) (each : AreLinesOf (start_of terms) entries lines t) where
  long : length entries ≡ length lines
  long = AreLinesOf-length (start_of terms) entries lines t each

  -- all lines are those of a legal record
  all_good : StandsAfter terms lines (length lines) t
  all_good =
      let whole : AreLinesOf (start_of terms) entries (take (length lines) lines) t = rw (take-length lines) each in
      (omega arith, omega (arith, long, few), (entries, whole))

  -- all lines are the longest part
  all_lines : (text : List ℕ) (verdict : Verdict) (judged : IsJudged terms lines text verdict) → judged.count ≡ length lines
  all_lines text verdict judged =
      omega (arith, judged.longest.longest (length lines) t all_good, judged.longest.stands.0)

  -- they stand where the entries lead
  all_stand : (text : List ℕ) (verdict : Verdict) (judged : IsJudged terms lines text verdict) → judged.state ≡ t
  all_stand text verdict judged =
      let part = judged.longest.stands.2 in
      let all : take judged.count lines ≡ lines = ap (λ m. take m lines) (all_lines text verdict judged) ∙ take-length lines in
      let read : AreLinesOf (start_of terms) part.0 lines judged.state = subst (λ (ls : List (List ℕ)). AreLinesOf (start_of terms) part.0 ls judged.state) all part.1 in
      AreLinesOf-same (start_of terms) part.0 entries lines judged.state t read each

  fine_verdict : (verdict : Verdict) (line : List ℕ) (count : ℕ) (state : State) → count ≡ length lines → IsVerdict verdict line lines count state → (verdict ≡ Fine (length entries)) × (line ≡ fine_line (length entries))
  fine_verdict (Fine m) line count state all h =
      let same : count ≡ length entries = all ∙ sym long in
      (ap Fine (h.1 ∙ same), h.2 ∙ ap fine_line same)
  fine_verdict (Refused number) line count state all h = absurd (omega (arith, h.0, all))
  fine_verdict TooLong line count state all h = absurd h

  judged_fine : (text : List ℕ) (verdict : Verdict) → IsJudged terms lines text verdict → (verdict ≡ Fine (length entries)) × (text ≡ board_text t ++ line_text (fine_line (length entries)))
  judged_fine text verdict judged =
      let named = fine_verdict verdict judged.line judged.count judged.state (all_lines text verdict judged) judged.named in
      (named.0, judged.printed ∙ (ap (λ s. board_text s ++ line_text judged.line) (all_stand text verdict judged) ∙ ap (λ line. board_text t ++ line_text line) named.1))

  answered_fine : (text : List ℕ) (verdict : Verdict) → IsMatchLength (match_length terms) → IsAnswerTo (length_line terms ∷ lines) text verdict → (verdict ≡ Fine (length entries)) × (text ≡ board_text t ++ line_text (fine_line (length entries)))
  answered_fine text verdict range (inl refused) = absurd (no_length_fault terms lines refused.why range refused.fault)
  answered_fine text verdict range (inr answer) =
      let same : answer.0 ≡ terms = one_length answer.0 terms answer.1 range (sym answer.2) in
      judged_fine text verdict (subst (λ (m : Terms). IsJudged m lines text verdict) same answer.3)

  -- that they are fine is what is said of them
  fine_judged : (text : List ℕ) → text ≡ board_text t ++ line_text (fine_line (length entries)) → IsJudged terms lines text (Fine (length entries))
  fine_judged text printed = record {
    count = length lines;
    state = t;
    longest = record { stands = all_good; longest = λ m s stands. stands.0 };
    line = fine_line (length lines);
    named = (refl, long, refl);
    printed = printed ∙ ap (λ m. board_text t ++ line_text (fine_line m)) long;
  }

-- what is read of a transcript: its lines, which are those of its entries
record IsReadTranscript (terms : Terms) (entries : List Entry) (t : State) (input : List ℕ) : Type 0 where
  lines : List (List ℕ)
  each : AreLinesOf (start_of terms) entries lines t
  bytes : length input ≤ most_bytes
  split : lines_of input ≡ length_line terms ∷ lines

read_transcript : (terms : Terms) (entries : List Entry) (t : State) (input : List ℕ) → IsMatchLength (match_length terms) → length entries ≤ most_entries
    → StandsAt terms entries t → IsTranscript terms entries input → IsReadTranscript terms entries t input
read_transcript terms entries t input range few stands transcript =
    let lines = transcript.0 in
    let same : transcript.1 ≡ t = one_standing terms entries transcript.1 t (AreLinesOf-Leads (start_of terms) entries lines transcript.1 transcript.2) stands in
    let shorts : AllByRecursion IsShortLine (length_line terms ∷ lines) = (length_line_short terms range, lines_short (start_of terms) entries lines transcript.1 transcript.2) in
    let long = AreLinesOf-length (start_of terms) entries lines transcript.1 transcript.2 in
    record {
      lines = lines;
      each = subst (λ (s : State). AreLinesOf (start_of terms) entries lines s) same transcript.2;
      bytes = rw transcript.3 (omega (arith, few, long, text_length (length_line terms ∷ lines) shorts));
      split = ap lines_of transcript.3 ∙ lines_of-text (length_line terms ∷ lines) shorts;
    }

pub transcripts_are_fine : TranscriptsAreFine
transcripts_are_fine terms entries t input text verdict range few stands transcript =
    let read = read_transcript terms entries t input range few stands transcript in
    (only read, judged read)
  where
    only : IsReadTranscript terms entries t input → IsJudgement input text verdict
        → (verdict ≡ Fine (length entries)) × (text ≡ board_text t ++ line_text (fine_line (length entries)))
    only read (inl long) = absurd (omega (arith, long.0, read.bytes))
    only read (inr short) = answered_fine terms entries read.lines t few read.each text verdict range (rw read.split at short.1)

    judged : IsReadTranscript terms entries t input → (verdict ≡ Fine (length entries)) × (text ≡ board_text t ++ line_text (fine_line (length entries)))
        → IsJudgement input text verdict
    judged read fine =
        let answer : IsAnswerTo (length_line terms ∷ read.lines) text (Fine (length entries)) =
        inr (terms, range, refl, fine_judged terms entries read.lines t few read.each text fine.1) in
        let said : IsAnswerTo (lines_of input) text verdict =
        subst (λ (v : Verdict). IsAnswerTo (lines_of input) text v) (sym fine.0)
        (subst (λ (ls : List (List ℕ)). IsAnswerTo ls text (Fine (length entries))) (sym read.split) answer) in
        inr (read.bytes, said)
