-- The lines of some entries, one by one.
use Rattle.std.proofs.Common.{◌≡◌, ℕ, zero, suc, ◌+◌, ◌-◌, ◌<◌, List, [], ◌∷◌, ◌++◌, length, take, drop, get_or, Some, min, refl, sym, ◌∙◌, ap, subst, arith}
use Rattle.std.specs.Prelude.{slice_get}
use Rattle.std.proofs.lemmas.List.{get_or-drop, length-drop, take_min, take_more}
use Rattle.std.proofs.lemmas.Option.{get_or_from_slice_get, slice_get_within}
use Rattle.bg_match.specs.Actor.{actor_of, seat_of}
use Rattle.bg_match.specs.Match.{Log, Leads, IsLegalRecord, at_number}
use Rattle.bg_match.specs.State.{State, start_of}
use Rattle.bg_match.specs.declared.entries.Entry.{Entry}
use Rattle.bg_match.proofs.Runs.{Follows-same}
use Rattle.bg_text.specs.Boards.BoardText.{line_text, lines_text}
use Rattle.bg_text.specs.Boards.Transcript.{AreLinesOf}
use Rattle.bg_text.specs.Entries.EntryText.{entry_text}
use Rattle.bg_text.specs.Judge.Reading.{AddsLineOf}
use Rattle.bg_text.proofs.Judged.ReadLines.{AreLinesOf-length}
use Rattle.bg_text.proofs.Judged.WrittenLines.{lines_text-push}
use Rattle.bg_c.specs.EntryLines.{HasLines}

-- entries that lead somewhere have lines
pub lines_there : (s : State) (entries : List Entry) (t : State) → Leads s entries t
    → (lines : List (List ℕ)) × AreLinesOf s entries lines t
lines_there s [] t leads = ([], leads)
lines_there s (e ∷ entries) t leads =
    let rest = lines_there leads.0 entries t leads.2 in
    (entry_text (seat_of (actor_of s)) e ∷ rest.0, (refl, leads.0, leads.1, rest.1))

-- the line of an entry is that by the seat that acts after the entries before it
pub line_at : (s : State) (entries : List Entry) (lines : List (List ℕ)) (t m : State) (i : ℕ) (e : Entry)
    → AreLinesOf s entries lines t → Leads s (take i entries) m → slice_get entries i ≡ Some e
    → slice_get lines i ≡ Some (entry_text (seat_of (actor_of m)) e)
line_at s [] lines t m i e are leads at = absurd cc
line_at s (f ∷ entries) [] t m i e are leads at = absurd are
line_at s (f ∷ entries) (line ∷ lines) t m zero e are leads at =
    let same : f ≡ e = cc in
    let named : line ≡ entry_text (seat_of (actor_of s)) e =
    are.0 ∙ ap (λ (x : Entry). entry_text (seat_of (actor_of s)) x) same in
    subst (λ (x : State). Some line ≡ Some (entry_text (seat_of (actor_of x)) e)) (sym leads) (ap (λ x. Some x) named)
line_at s (f ∷ entries) (line ∷ lines) t m (suc i) e are leads at =
    let same : leads.0 ≡ are.1 = Follows-same s f leads.0 are.1 leads.1 are.2 in
    line_at are.1 entries lines t m i e are.3 (subst (λ (x : State). Leads x (take i entries) m) same leads.2) at

-- the text has so many lines behind those that are skipped, whichever lines the entries have
abbrev pub HasSoFar : Log → ℕ → ℕ → List ℕ → Type 0
HasSoFar log skipped done text =
    (lines : List (List ℕ)) (t : State) → AreLinesOf (start_of log.terms) log.entries lines t
    → text ≡ lines_text (take done (drop skipped lines))

-- one more line is there
pub more_lines : (log : Log) (skipped done : ℕ) (old new : List ℕ) → HasSoFar log skipped done old
    → AddsLineOf log (skipped + done + 1) old new → HasSoFar log skipped (done + 1) new
more_lines log skipped done old new so_far added lines t are =
    let line = entry_text (seat_of (actor_of added.0)) added.1 in
    let rest = drop skipped lines in
    let back : skipped + done + 1 - 1 ≡ skipped + done = omega arith in
    let behind : skipped + done + 1 ≡ suc (skipped + done) = omega arith in
    let read : slice_get log.entries (skipped + done) ≡ Some added.1 =
    subst (λ (n : ℕ). at_number log.entries n ≡ Some added.1) behind added.3 in
    let leads : Leads (start_of log.terms) (take (skipped + done) log.entries) added.0 =
    subst (λ (n : ℕ). Leads (start_of log.terms) (take n log.entries) added.0) back added.2 in
    let at : slice_get lines (skipped + done) ≡ Some line =
    line_at (start_of log.terms) log.entries lines t added.0 (skipped + done) added.1 are leads read in
    let within : skipped + done < length lines = slice_get_within lines (skipped + done) line at in
    let few : done < length rest = omega (arith, length-drop skipped lines) in
    let got : get_or rest done [] ≡ line =
    get_or-drop skipped lines done [] ∙ get_or_from_slice_get lines (skipped + done) line [] at in
    let taken : take (done + 1) rest ≡ take done rest ++ line ∷ [] =
    take_more rest done [] few ∙ ap (λ x. take done rest ++ x ∷ []) got in
    added.4 ∙ ap (λ x. x ++ line_text line) (so_far lines t are) ∙ sym (lines_text-push (take done rest) line)
    ∙ ap (λ x. lines_text x) (sym taken)

-- all lines are there
pub all_lines : (log : Log) (skipped count done : ℕ) (text : List ℕ) → IsLegalRecord log.terms log.entries
    → done ≡ min (length log.entries - skipped) count → HasSoFar log skipped done text → HasLines log skipped count text
all_lines log skipped count done text legal all so_far =
    let there = lines_there (start_of log.terms) log.entries legal.1.0 legal.1.1 in
    let rest = drop skipped there.0 in
    let long : length log.entries ≡ length there.0 =
    AreLinesOf-length (start_of log.terms) log.entries there.0 legal.1.0 there.1 in
    let most : done ≡ min count (length rest) = omega (arith, length-drop skipped there.0) in (
      there.0,
      legal.1.0,
      there.1,
      so_far there.0 legal.1.0 there.1
          ∙ ap (λ x. lines_text x) (ap (λ (n : ℕ). take n rest) most ∙ take_min count rest),
    )
