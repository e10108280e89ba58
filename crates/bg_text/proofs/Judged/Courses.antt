-- Where the lines of a transcript lead.
use Rattle.std.proofs.Common.{◌≡◌, ℕ, suc, ◌+◌, ◌-◌, ◌<◌, ◌≤◌, List, [], ◌∷◌, ◌++◌, length, take, slice_index_or, Option, None, Some, refl, sym, ◌∙◌, ap, subst, arith, length-append, append-nil, append_assoc, inl, inr}
use Rattle.std.specs.Prelude.{Result, Ok, Err, IsOk, IfOk, IfSome, IsSome, is_ok, true, ◌↔◌}
use Rattle.std.proofs.lemmas.Bool.{cases_lt}
use Rattle.std.proofs.Math.Seq.{get_or-append_seam, take-append-add}
use Rattle.std.proofs.lemmas.List.{take_all, take-append-le}
use Rattle.bg_match.specs.Follows.{CanFollow, IsEntryFault}
use Rattle.bg_match.specs.Limits.{most_entries}
use Rattle.bg_match.specs.State.{State, start_of}
use Rattle.bg_match.specs.Terms.{Terms}
use Rattle.bg_match.specs.declared.entries.Entry.{Entry}
use Rattle.bg_match.specs.declared.entries.EntryFault.{EntryFault}
use Rattle.bg_match.specs.declared.entries.EntryFault.TheVariants as entry_fault
use Rattle.bg_text.specs.Boards.Transcript.{AreLinesOf}
use Rattle.bg_text.specs.Boards.BoardText.{board_text, line_text}
use Rattle.bg_text.specs.Judge.Hearing.{AreAll, Continues, IsCourseOf, IsHeardAs, Keeps, Stops}
use Rattle.bg_text.specs.Judge.Judging.{IsAnswerTo, IsJudged, IsLongestPart, IsRefusal, StandsAfter, fine_line, refused_line}
use Rattle.bg_text.specs.Judge.Reading.{IsReadAs, IsLineAt}
use Rattle.bg_text.specs.declared.faults.LineFault.{LineFault}
use Rattle.bg_text.specs.declared.faults.LineFault.TheVariants.{Entry as RefusedEntry}
use Rattle.bg_text.specs.declared.judging.judgements.Judgement.{Judgement}
use Rattle.bg_text.specs.declared.judging.verdicts.Verdict.{Verdict}
use Rattle.bg_text.specs.declared.judging.verdicts.Verdict.TheVariants.{Fine, Refused}
use Rattle.bg_text.specs.declared.judging.courses.Course.{Course}
use Rattle.bg_text.proofs.Judged.ReadLines.{AreLinesOf-length, AreLinesOf-next, AreLinesOf-push, AreLinesOf-same}

-- a fault of an entry, where there is room for one
refusal_of : (why : EntryFault) (n : ℕ) (s : State) (e : Entry) → n < most_entries → IsEntryFault why s e → IsRefusal why n s e
refusal_of entry_fault.RecordFull n s e few h = absurd h
refusal_of entry_fault.Memory n s e few h = absurd h
refusal_of entry_fault.MatchOver n s e few h = (few, h)
refusal_of entry_fault.WrongPhase n s e few h = (few, h)
refusal_of entry_fault.EqualOpening n s e few h = (few, h)
refusal_of (entry_fault.Turn turn) n s e few h = (few, h)
refusal_of (entry_fault.NoDouble double) n s e few h = (few, h)

module _ (c : Course) (line : List ℕ) (e : Entry) (read : IsReadAs c.standing line e) (only : (f : Entry) → IsLineAt c.standing line f → e ≡ f) where
  -- no entry follows as many as there can be
  pub full_stops : most_entries ≤ c.entries → Stops (RefusedEntry entry_fault.RecordFull) c line
  full_stops full = ((read.0, e, read.1, read.2, read.3, read.4, full), λ f few at. absurd (omega (arith, full, few)))

  -- an entry can't follow
  pub fault_stops : (why : EntryFault) → c.entries < most_entries → IsEntryFault why c.standing e → (CanFollow c.standing e → ⊥) → Stops (RefusedEntry why) c line
  fault_stops why few fault illegal = (
    (read.0, e, read.1, read.2, read.3, read.4, refusal_of why c.entries c.standing e few fault),
    λ f few at. illegal (subst (λ (x : Entry). CanFollow c.standing x) (sym (only f at)) at.1),
  )

-- an entry that was refused does not follow
pub err_illegal : {T P : Type 0} (r : Result T EntryFault) (why : EntryFault) → r ≡ Err why → IsOk r ↔ P → P → ⊥
err_illegal r why is ok legal = let good : is_ok r ≡ true = ok.1 legal in cc

-- line 1 begins a course
pub course_begins : (course : Option Course) (line : List ℕ) → IfSome course (IsHeardAs (line ∷ [])) → IsSome course → Keeps course None (line ∷ [])
course_begins None line heard some = absurd cc
course_begins (Some c) line heard some = heard

-- one more line
pub course_grows : (c new : Course) (lines : List (List ℕ)) (line : List ℕ) → IsHeardAs lines c → Continues c new line → IsHeardAs (lines ++ line ∷ []) new
course_grows c new lines line heard more =
    let course = heard.2.2 in
    let e = more.0 in
    let longer = length-append course.entries (e ∷ []) in (
      heard.0,
      heard.1,
      (
        heard.2.0 ++ line ∷ [],
        ap (λ ls. ls ++ line ∷ []) heard.2.1,
        record {
          entries = course.entries ++ e ∷ [];
          leads = AreLinesOf-push (start_of heard.0) course.entries heard.2.0 c.standing e line new.standing course.leads more.1.0 more.2;
          counted = more.4 ∙ omega (arith, course.counted, longer);
          few = omega (arith, more.3, more.4);
        },
      ),
    )

-- a course from its lines
module _ (terms : Terms) (done : List (List ℕ)) (c : Course) (course : IsCourseOf terms done c) where
  long : c.entries ≡ length done
  long = course.counted ∙ AreLinesOf-length (start_of terms) course.entries done c.standing course.leads

  -- the lines are a legal part of those with others behind them
  stands : (behind : List (List ℕ)) → StandsAfter terms (done ++ behind) c.entries c.standing
  stands behind =
      let sum = length-append done behind in
      let front : take c.entries (done ++ behind) ≡ done =
      take-append-le c.entries done behind (omega (arith, long)) ∙ take_all c.entries done (omega (arith, long)) in
      (omega (arith, long, sum), course.few, (course.entries, rw front course.leads))

  -- all lines are a legal part, and so the longest
  pub longest_of_all : IsLongestPart terms done c.entries c.standing
  longest_of_all =
      let whole : StandsAfter terms (done ++ []) c.entries c.standing = stands [] in
      record {
        stands = subst (λ (ls : List (List ℕ)). StandsAfter terms ls c.entries c.standing) (append-nil done) whole;
        longest = λ m s h. omega (arith, h.0, long);
      }

  -- no longer part is legal where the next line stops the course
  no_longer : (line : List ℕ) (behind : List (List ℕ)) → ((e : Entry) → c.entries < most_entries → IsLineAt c.standing line e → ⊥)
      → (m : ℕ) (s : State) → c.entries < m → StandsAfter terms (done ++ line ∷ behind) m s → ⊥
  no_longer line behind refuses m s longer h =
      let beyond : m ≡ length done + (m - length done) = omega (arith, long, longer) in
      let past : take m (done ++ line ∷ behind) ≡ done ++ take (m - length done) (line ∷ behind) =
      ap (λ n. take n (done ++ line ∷ behind)) beyond ∙ take-append-add done (line ∷ behind) (m - length done) in
      let one : m - length done ≡ suc (m - length done - 1) = omega (arith, long, longer) in
      let parts : take m (done ++ line ∷ behind) ≡ done ++ line ∷ take (m - length done - 1) behind = past ∙ ap (λ n. done ++ take n (line ∷ behind)) one in
      let read : AreLinesOf (start_of terms) h.2.0 (done ++ line ∷ take (m - length done - 1) behind) s =
      subst (λ (ls : List (List ℕ)). AreLinesOf (start_of terms) h.2.0 ls s) parts h.2.1 in
      let next = AreLinesOf-next (start_of terms) h.2.0 done line (take (m - length done - 1) behind) s read in
      let same = AreLinesOf-same (start_of terms) next.0 course.entries done next.1 c.standing next.2 course.leads in
      refuses next.3.0 (omega (arith, h.1, longer)) (subst (λ (u : State). IsLineAt u line next.3.0) same next.3.1)

  -- so these lines are the longest one
  pub longest_stopped : (line : List ℕ) (behind : List (List ℕ)) → ((e : Entry) → c.entries < most_entries → IsLineAt c.standing line e → ⊥)
      → IsLongestPart terms (done ++ line ∷ behind) c.entries c.standing
  longest_stopped line behind refuses = record {
    stands = stands (line ∷ behind);
    longest = λ m s h. elim (cases_lt c.entries m) [
      | inl longer ↦ absurd (no_longer line behind refuses m s longer h)
      | inr within ↦ within
    ];
  }

  -- the line behind them stands at their number
  pub line_behind : (line : List ℕ) (behind : List (List ℕ)) → (c.entries < length (done ++ line ∷ behind)) × (slice_index_or (done ++ line ∷ behind) c.entries [] ≡ line)
  line_behind line behind = (
    omega (arith, long, length-append done (line ∷ behind)),
    ap (λ n. slice_index_or (done ++ line ∷ behind) n []) long ∙ get_or-append_seam done line behind [],
  )

  -- the judgements of the two ways to end
  judged_all : (text : List ℕ) (verdict : Verdict) → text ≡ board_text c.standing ++ line_text (fine_line c.entries) → verdict ≡ Fine c.entries
      → IsJudged terms done text verdict
  judged_all text verdict printed fine = record {
    count = c.entries;
    state = c.standing;
    longest = longest_of_all;
    line = fine_line c.entries;
    named = rw fine (long, refl, refl);
    printed = printed;
  }

  judged_stopped : (line : List ℕ) (behind : List (List ℕ)) (why : LineFault) (text : List ℕ) (verdict : Verdict) → Stops why c line
      → text ≡ board_text c.standing ++ line_text (refused_line (c.entries + 2) why) → verdict ≡ Refused (c.entries + 2)
      → IsJudged terms (done ++ line ∷ behind) text verdict
  judged_stopped line behind why text verdict stops printed refused =
      let at = line_behind line behind in
      record {
        count = c.entries;
        state = c.standing;
        longest = longest_stopped line behind stops.1;
        line = refused_line (c.entries + 2) why;
        named = rw refused (at.0, refl, (why, rw at.1 stops.0, refl));
        printed = printed;
      }

-- all that was heard is good
answers_all : (c : Course) (lines : List (List ℕ)) (text : List ℕ) (verdict : Verdict) → IsHeardAs lines c
    → text ≡ board_text c.standing ++ line_text (fine_line c.entries) → verdict ≡ Fine c.entries → IsAnswerTo lines text verdict
answers_all c lines text verdict heard printed fine =
    rw heard.2.1 (inr (heard.0, heard.1, refl, judged_all heard.0 heard.2.0 c heard.2.2 text verdict printed fine))

-- a line is refused
answers_stopped : (c : Course) (front behind : List (List ℕ)) (line : List ℕ) (why : LineFault) (text : List ℕ) (verdict : Verdict) → IsHeardAs front c
    → Stops why c line → text ≡ board_text c.standing ++ line_text (refused_line (c.entries + 2) why) → verdict ≡ Refused (c.entries + 2)
    → IsAnswerTo (front ++ line ∷ behind) text verdict
answers_stopped c front behind line why text verdict heard stops printed refused =
    rw heard.2.1 (inr (heard.0, heard.1, refl, judged_stopped heard.0 heard.2.0 c heard.2.2 line behind why text verdict stops printed refused))

-- what is said of lines of which all are heard, or one is refused
pub fine_answers : {E : Type 0} (r : Result Judgement E) (c : Course) → IfOk r (λ j. j.text.items ≡ board_text c.standing ++ line_text (fine_line c.entries)) → IfOk r (λ j. j.verdict ≡ Fine c.entries)
    → IfOk r (λ j. (lines all : List (List ℕ)) → Keeps (Some c) None lines → AreAll None lines all → IsAnswerTo all j.text.items j.verdict)
fine_answers (Ok j) c text verdict = λ lines all keeps are. rw are (answers_all c lines j.text.items j.verdict keeps text verdict)
fine_answers (Err e) c text verdict = tt

pub refused_answers : {E : Type 0} (r : Result Judgement E) (c : Course) (why : LineFault)
    → (c.entries ≤ most_entries → IfOk r (λ j. j.text.items ≡ board_text c.standing ++ line_text (refused_line (c.entries + 2) why)))
    → (c.entries ≤ most_entries → IfOk r (λ j. j.verdict ≡ Refused (c.entries + 2)))
    → IfOk r (λ j. (lines all : List (List ℕ)) → Keeps (Some c) (Some why) lines → AreAll (Some why) lines all → IsAnswerTo all j.text.items j.verdict)
refused_answers (Ok j) c why text verdict = λ lines all keeps are.
    let whole : all ≡ keeps.0 ++ keeps.1 ∷ are.0 = are.1 ∙ ap (λ ls. ls ++ are.0) keeps.2 ∙ append_assoc keeps.0 (keeps.1 ∷ []) are.0 in
    let few = keeps.3.2.2.few in
    rw whole (answers_stopped c keeps.0 are.0 keeps.1 why j.text.items j.verdict keeps.3 keeps.4 (text few) (verdict few))
refused_answers (Err e) c why text verdict = tt
