-- A transcript that is read line by line.
use Rattle.std.proofs.Common.{◌≡◌, ℕ, ◌<◌, List, [], ◌∷◌, ◌++◌, length, take, slice_index_or, None, Some, refl, sym, ◌∙◌, ap, subst, arith, length-append, append-nil, append_assoc}
use Rattle.std.proofs.lemmas.List.{take_all, take-append-le}
use Rattle.bg_match.specs.Terms.{Terms}
use Rattle.bg_match.specs.Match.{Log, StandsAt}
use Rattle.bg_match.specs.State.{State, start_of}
use Rattle.bg_match.specs.declared.entries.Entry.{Entry}
use Rattle.bg_match.specs.Limits.{most_entries}
use Rattle.bg_match.proofs.Legal.{one_standing}
use Rattle.bg_text.specs.Boards.Transcript.{AreLinesOf}
use Rattle.bg_text.specs.Judge.Hearing.{IsCourseOf}
use Rattle.bg_text.specs.Judge.Judging.{lines_of, IsLineFault, IsLongestPart}
use Rattle.bg_text.specs.Judge.Reading.{IsLineAt, AddsLine, RefusesLine, IsPartRead, AreRead}
use Rattle.bg_text.specs.declared.faults.LineFault.{LineFault}
use Rattle.bg_text.specs.declared.judging.reading.AddFault.TheVariants.{Refused as RefusedLine}
use Rattle.bg_text.specs.declared.judging.courses.Course.{Course}
use Rattle.bg_text.proofs.Judged.Courses.{line_behind, longest_of_all, longest_stopped}
use Rattle.bg_text.proofs.Judged.ReadLines.{AreLinesOf-Leads, AreLinesOf-length, AreLinesOf-push}

module _ (id : ℕ) (terms : Terms) (lines : List (List ℕ)) where
  -- nothing is read yet
  pub part_start : (r : Log) (rest : List ℕ) → lines ≡ lines_of rest → r.entries ≡ [] → r.terms ≡ terms → r.id ≡ id → IsPartRead id terms lines r rest
  part_start r rest split none same numbered = record {
    done = [];
    split = split;
    state = start_of terms;
    entries = rw none refl;
    few = rw none (omega arith);
    same_terms = same;
    same_id = numbered;
  }

  -- one more line is read
  pub part_more : (r new : Log) (rest after line : List ℕ) → IsPartRead id terms lines r rest → lines_of rest ≡ line ∷ lines_of after → AddsLine r new line → IsPartRead id terms lines new after
  part_more r new rest after line part first added =
      let stands : StandsAt terms r.entries added.1 = subst (λ (m : Terms). StandsAt m r.entries added.1) part.same_terms added.2 in
      let same : added.1 ≡ part.state = one_standing terms r.entries added.1 part.state stands (AreLinesOf-Leads (start_of terms) r.entries part.done part.state part.entries) in
      let at : IsLineAt part.state line added.0 = subst (λ (s : State). IsLineAt s line added.0) same added.3 in
      let more = length-append r.entries (added.0 ∷ []) in
      record {
        done = part.done ++ line ∷ [];
        split = part.split ∙ ap (λ rest. part.done ++ rest) first ∙ sym (append_assoc part.done (line ∷ []) (lines_of after));
        state = at.1.0;
        entries = rw added.5 (AreLinesOf-push (start_of terms) r.entries part.done part.state added.0 line at.1.0 part.entries at.0 at.1.1);
        few = rw added.5 (omega (arith, added.4, more));
        same_terms = added.6 ∙ part.same_terms;
        same_id = added.7 ∙ part.same_id;
      }

  -- the lines of the record are the first ones
  part_lines : (r : Log) (rest : List ℕ) (part : IsPartRead id terms lines r rest) → AreLinesOf (start_of terms) r.entries (take (length r.entries) lines) part.state
  part_lines r rest part =
      let long = AreLinesOf-length (start_of terms) r.entries part.done part.state part.entries in
      let front : take (length r.entries) lines ≡ part.done =
      ap (take (length r.entries)) part.split ∙ (take-append-le (length r.entries) part.done (lines_of rest) (omega arith) ∙ take_all (length r.entries) part.done (omega arith)) in
      rw front part.entries

  -- they lead where the course of the record stands
  course_of : (r : Log) (rest : List ℕ) (part : IsPartRead id terms lines r rest) → IsCourseOf terms part.done (record { standing = part.state; entries = length r.entries })
  course_of r rest part = record { entries = r.entries; leads = part.entries; counted = refl; few = part.few }

  -- where the record stands
  part_state : (r : Log) (rest : List ℕ) (part : IsPartRead id terms lines r rest) (t : State) → StandsAt r.terms r.entries t → t ≡ part.state
  part_state r rest part t stands =
      one_standing terms r.entries t part.state (subst (λ (m : Terms). StandsAt m r.entries t) part.same_terms stands)
      (AreLinesOf-Leads (start_of terms) r.entries part.done part.state part.entries)

  -- all lines are read
  pub all_read : (r : Log) → IsPartRead id terms lines r [] → AreRead id terms lines r None
  all_read r part =
      let same : part.done ≡ lines = sym (append-nil part.done) ∙ sym part.split in
      let long = AreLinesOf-length (start_of terms) r.entries part.done part.state part.entries in
      record {
        state = part.state;
        same_id = part.same_id;
        same_terms = part.same_terms;
        longest = subst (λ (ls : List (List ℕ)). IsLongestPart terms ls (length r.entries) part.state) same
            (longest_of_all terms part.done (record { standing = part.state; entries = length r.entries }) (course_of r [] part));
        entries = part_lines r [] part;
        stop = long ∙ ap length same;
      }

  -- a line is refused
  pub line_stops : (r : Log) (rest after line : List ℕ) (why : LineFault) → IsPartRead id terms lines r rest → lines_of rest ≡ line ∷ lines_of after
      → RefusesLine (RefusedLine why) r line → AreRead id terms lines r (Some why)
  line_stops r rest after line why part first refuses =
      let split : lines ≡ part.done ++ line ∷ lines_of after = part.split ∙ ap (λ rest. part.done ++ rest) first in
      let refuser = part_state r rest part refuses.0 refuses.1 in
      let fault : IsLineFault why (length r.entries) part.state line = subst (λ (s : State). IsLineFault why (length r.entries) s line) refuser refuses.2 in
      let refused : (e : Entry) → length r.entries < most_entries → IsLineAt part.state line e → ⊥ =
      λ e few at. refuses.3 e few (subst (λ (u : State). IsLineAt u line e) (sym refuser) at) in
      let course = course_of r rest part in
      let c : Course = record { standing = part.state; entries = length r.entries } in
      let at = line_behind terms part.done c course line (lines_of after) in
      record {
        state = part.state;
        same_id = part.same_id;
        same_terms = part.same_terms;
        longest = subst (λ (ls : List (List ℕ)). IsLongestPart terms ls (length r.entries) part.state) (sym split)
            (longest_stopped terms part.done c course line (lines_of after) refused);
        entries = part_lines r rest part;
        stop = subst (λ (ls : List (List ℕ)). (length r.entries < length ls) × IsLineFault why (length r.entries) part.state (slice_index_or ls (length r.entries) [])) (sym split)
            (at.0, rw at.1 fault);
      }
