-- A transcript that is written line by line.
use Rattle.std.proofs.Common.{◌≡◌, ℕ, zero, suc, ◌+◌, ◌-◌, ◌≤◌, List, [], ◌∷◌, ◌++◌, length, take, Option, Some, refl, sym, ◌∙◌, ap, subst, arith, append-nil, append_assoc}
use Rattle.std.specs.Prelude.{slice_get}
use Rattle.std.proofs.Math.Seq.{take-length}
use Rattle.bg_match.specs.Terms.{Terms}
use Rattle.bg_match.specs.Actor.{actor_of, seat_of}
use Rattle.bg_match.specs.Follows.{Follows}
use Rattle.bg_board.specs.declared.players.Player.{Player}
use Rattle.bg_match.specs.Match.{Log, Leads, StandsAt, SeatAfter, IsLegalRecord, at_number}
use Rattle.bg_match.specs.State.{State, start_of}
use Rattle.bg_match.specs.declared.entries.Entry.{Entry}
use Rattle.bg_match.proofs.Legal.{one_standing}
use Rattle.bg_text.specs.Boards.BoardText.{line_text, lines_text}
use Rattle.bg_text.specs.Entries.EntryText.{entry_text, IsSeatOf}
use Rattle.bg_text.specs.Boards.Transcript.{AreLinesOf, IsTranscript, length_line}
use Rattle.bg_text.specs.Judge.Reading.{AddsLineOf, IsPartWritten}
use Rattle.bg_text.proofs.Judged.ReadLines.{seat_acts, AreLinesOf-Leads, AreLinesOf-push}

-- one more line at the end
pub lines_text-push : (lines : List (List ℕ)) (line : List ℕ) → lines_text (lines ++ line ∷ []) ≡ lines_text lines ++ line_text line
lines_text-push [] line = append-nil (line_text line)
lines_text-push (first ∷ lines) line = ap (λ text. line_text first ++ text) (lines_text-push lines line) ∙ sym (append_assoc (line_text first) (lines_text lines) (line_text line))

-- an entry of a list that leads somewhere follows what is before it
pub entry_at : (s : State) (entries : List Entry) (t : State) (i : ℕ) (e : Entry) → Leads s entries t → slice_get entries i ≡ Some e
    → (m : State) × (u : State) × Leads s (take i entries) m × Follows m e u × (take (suc i) entries ≡ take i entries ++ e ∷ [])
entry_at s [] t i e h at = absurd cc
entry_at s (f ∷ entries) t zero e h at =
    let same : f ≡ e = cc in
    (s, h.0, refl, subst (λ (x : Entry). Follows s x h.0) same h.1, ap (λ x. x ∷ []) same)
entry_at s (f ∷ entries) t (suc i) e h at =
    let rest = entry_at h.0 entries t i e h.2 at in
    (rest.0, rest.1, (h.0, h.1, rest.2), rest.3, ap (λ xs. f ∷ xs) rest.4)

-- the seat that acts before an entry of a legal record is the one that made it
pub seat_of_entry : (terms : Terms) (entries : List Entry) (number : ℕ) (seat : Option Player) (e : Entry) → IsLegalRecord terms entries → 1 ≤ number
    → SeatAfter terms (take (number - 1) entries) seat → at_number entries number ≡ Some e → IsSeatOf seat e
seat_of_entry terms entries zero seat e legal first acts at = absurd (omega arith)
seat_of_entry terms entries (suc i) seat e legal first acts at =
    let here = entry_at (start_of terms) entries legal.1.0 i e legal.1.1 at in
    let back : suc i - 1 ≡ i = omega arith in
    let stands : StandsAt terms (take i entries) acts.0 = subst (λ (n : ℕ). StandsAt terms (take n entries) acts.0) back acts.1 in
    let same = one_standing terms (take i entries) here.0 acts.0 here.2 stands in
    let follows : Follows acts.0 e here.1 = subst (λ (x : State). Follows x e here.1) same here.3 in
    subst (λ (x : Option Player). IsSeatOf x e) (sym acts.2) (seat_acts acts.0 e here.1 follows)

-- nothing but the length is written yet
pub none_written : (r : Log) (text : List ℕ) → text ≡ line_text (length_line r.terms) → IsPartWritten r 1 text
none_written r text is = record {
  lines = [];
  state = start_of r.terms;
  each = refl;
  written = is ∙ sym (append-nil (line_text (length_line r.terms)));
}

-- one more line is written
pub more_written : (r : Log) (number : ℕ) (old new : List ℕ) → IsLegalRecord r.terms r.entries → 1 ≤ number → IsPartWritten r number old → AddsLineOf r number old new → IsPartWritten r (number + 1) new
more_written r zero old new legal first part added = absurd (omega arith)
more_written r (suc i) old new legal first part added =
    let here = entry_at (start_of r.terms) r.entries legal.1.0 i added.1 legal.1.1 added.3 in
    let back : suc i - 1 ≡ i = omega arith in
    let on : suc i + 1 - 1 ≡ suc i = omega arith in
    let each : AreLinesOf (start_of r.terms) (take i r.entries) part.lines part.state = subst (λ (n : ℕ). AreLinesOf (start_of r.terms) (take n r.entries) part.lines part.state) back part.each in
    let adds : StandsAt r.terms (take i r.entries) added.0 = subst (λ (n : ℕ). StandsAt r.terms (take n r.entries) added.0) back added.2 in
    let at_part = one_standing r.terms (take i r.entries) here.0 part.state here.2 (AreLinesOf-Leads (start_of r.terms) (take i r.entries) part.lines part.state each) in
    let at_added = one_standing r.terms (take i r.entries) part.state added.0 (AreLinesOf-Leads (start_of r.terms) (take i r.entries) part.lines part.state each) adds in
    let line = entry_text (seat_of (actor_of added.0)) added.1 in
    let named : line ≡ entry_text (seat_of (actor_of part.state)) added.1 = ap (λ (x : State). entry_text (seat_of (actor_of x)) added.1) (sym at_added) in
    let follows : Follows part.state added.1 here.1 = subst (λ (x : State). Follows x added.1 here.1) at_part here.3 in
    record {
      lines = part.lines ++ line ∷ [];
      state = here.1;
      each = rw (on, here.4) (AreLinesOf-push (start_of r.terms) (take i r.entries) part.lines part.state added.1 line here.1 each named follows);
      written = added.4 ∙ (ap (λ text. text ++ line_text line) part.written ∙ sym (lines_text-push (length_line r.terms ∷ part.lines) line));
    }

-- all lines are written
pub all_written : (r : Log) (number : ℕ) (text : List ℕ) → number ≡ length r.entries + 1 → IsPartWritten r number text → IsTranscript r.terms r.entries text
all_written r number text end part =
    let on : number - 1 ≡ length r.entries = omega arith in
    let all : take (number - 1) r.entries ≡ r.entries = ap (λ n. take n r.entries) on ∙ take-length r.entries in
    (part.lines, part.state, subst (λ (xs : List Entry). AreLinesOf (start_of r.terms) xs part.lines part.state) all part.each, part.written)
