-- The lines of entries that follow one another.
use Rattle.std.proofs.Common.{◌≡◌, ◌≢◌, ℕ, ◌<◌, List, [], ◌∷◌, ◌++◌, length, Option, Some, None, Result, Ok, Err, refl, sym, ◌∙◌, ap, subst, arith, length-append}
use Rattle.std.specs.Prelude.{Bool, IsSome, IsOk, IsTrue, IfOk, ◌↔◌, is_ok, true, false}
use Rattle.bg_board.specs.declared.players.Player.{Player}
use Rattle.bg_board.specs.declared.players.Player.TheVariants.{X, O}
use Rattle.bg_match.specs.Actor.{actor_in, actor_of, seat_of}
use Rattle.bg_match.specs.Entry.{IsEntry, IsByReferee}
use Rattle.bg_match.specs.Follows.{Follows, IsEntryFault}
use Rattle.bg_match.specs.Match.{Leads, Log, StandsAt, IsLegalRecord, IsRecordFault, IsNext}
use Rattle.bg_match.specs.Limits.{most_entries}
use Rattle.bg_match.specs.declared.entries.EntryFault.{EntryFault}
use Rattle.bg_match.specs.declared.entries.EntryFault.TheVariants as entry_fault
use Rattle.bg_match.specs.State.{State, start_of}
use Rattle.bg_match.specs.declared.entries.Entry.{Entry}
use Rattle.bg_match.specs.declared.entries.Entry.TheVariants as entry
use Rattle.bg_match.specs.declared.phases.Actor.TheVariants.{Referee}
use Rattle.bg_match.specs.declared.phases.Phase.TheVariants as phase
use Rattle.bg_match.proofs.Legal.{Follows_in_range, one_standing}
use Rattle.bg_match.proofs.Passing.{not_passed, by_phase, by_pass, seat_acts as acts_of_seat}
use Rattle.bg_match.proofs.Runs.{Follows-same, Leads-push, Leads-last}
use Rattle.bg_text.specs.Entries.EntryText.{entry_text, IsSeatOf}
use Rattle.bg_text.specs.Boards.Transcript.{AreLinesOf}
use Rattle.bg_text.specs.Judge.Judging.{IsRefusal, IsWrongSeat}
use Rattle.bg_text.specs.Judge.Reading.{IsReadAs, IsLineAt, AddsLine, RefusesLine, fault_of_push}
use Rattle.bg_text.specs.declared.judging.reading.AddFault.TheVariants.{Refused}
use Rattle.bg_text.specs.declared.faults.LineFault.{LineFault}
use Rattle.bg_text.specs.declared.faults.LineFault.TheVariants.{Entry as RefusedEntry}
use Rattle.bg_text.specs.declared.faults.TextFault.{TextFault}
use Rattle.bg_text.proofs.Spelling.EntryTexts.{same_line, downward_entry}

no_seat : (seat : Option Player) → IsSome seat → seat ≡ None → ⊥
no_seat None h e = absurd cc
no_seat (Some p) h e = absurd cc

by_referee : (s : State) (e : Entry) → actor_of s ≡ Referee → IsByReferee e → IsSeatOf (seat_of (actor_of s)) e
by_referee s e is own = (λ none. own, λ made. ap seat_of is)

by_seat : (s : State) (e : Entry) (t : State) → Follows s e t → (IsByReferee e → ⊥) → IsSeatOf (seat_of (actor_of s)) e
by_seat s e t h other =
    let acts = acts_of_seat s e t h other in
    let same = ap seat_of (by_phase s acts.0) in
    (λ none. absurd (no_seat (seat_of (actor_in s.phase)) acts.1 (sym same ∙ none)), λ own. absurd (other own))

-- who acts makes the entry that follows
pub seat_acts : (s : State) (e : Entry) (t : State) → Follows s e t → IsSeatOf (seat_of (actor_of s)) e
seat_acts s (entry.Opening x o) t h = by_referee s (entry.Opening x o) (by_phase s (not_passed s phase.Opening h.0 (λ p dice is. cc)) ∙ ap actor_in h.0) tt
seat_acts s entry.Passed t h = by_referee s entry.Passed (by_pass s h.3) tt
seat_acts s (entry.Rolled dice) t h = by_seat s (entry.Rolled dice) t h (λ own. own)
seat_acts s entry.Doubled t h = by_seat s entry.Doubled t h (λ own. own)
seat_acts s entry.Taken t h = by_seat s entry.Taken t h (λ own. own)
seat_acts s entry.Dropped t h = by_seat s entry.Dropped t h (λ own. own)
seat_acts s (entry.Moved turn) t h = by_seat s (entry.Moved turn) t h (λ own. own)
seat_acts s (entry.Resigned level) t h = by_seat s (entry.Resigned level) t h (λ own. own)
seat_acts s entry.Accepted t h = by_seat s entry.Accepted t h (λ own. own)
seat_acts s entry.Rejected t h = by_seat s entry.Rejected t h (λ own. own)

-- one line is that of one entry that follows
pub one_line : (s : State) (line : List ℕ) (e e' : Entry) → IsLineAt s line e → IsLineAt s line e' → e ≡ e'
one_line s line e e' h h' =
    let range = downward_entry e (Follows_in_range s e h.1.0 h.1.1) in
    let range' = downward_entry e' (Follows_in_range s e' h'.1.0 h'.1.1) in
    (same_line (seat_of (actor_of s)) (seat_of (actor_of s)) e e' range range' (sym h.0 ∙ h'.0)).1

pub AreLinesOf-Leads : (s : State) (entries : List Entry) (lines : List (List ℕ)) (t : State) → AreLinesOf s entries lines t → Leads s entries t
AreLinesOf-Leads s [] [] t h = h
AreLinesOf-Leads s [] (line ∷ lines) t h = absurd h
AreLinesOf-Leads s (e ∷ entries) [] t h = absurd h
AreLinesOf-Leads s (e ∷ entries) (line ∷ lines) t h = (h.1, h.2, AreLinesOf-Leads h.1 entries lines t h.3)

pub AreLinesOf-length : (s : State) (entries : List Entry) (lines : List (List ℕ)) (t : State) → AreLinesOf s entries lines t → length entries ≡ length lines
AreLinesOf-length s [] [] t h = refl
AreLinesOf-length s [] (line ∷ lines) t h = absurd h
AreLinesOf-length s (e ∷ entries) [] t h = absurd h
AreLinesOf-length s (e ∷ entries) (line ∷ lines) t h = let rest = AreLinesOf-length h.1 entries lines t h.3 in omega arith

pub AreLinesOf-push : (s : State) (entries : List Entry) (lines : List (List ℕ)) (t : State) (e : Entry) (line : List ℕ) (u : State)
    → AreLinesOf s entries lines t → line ≡ entry_text (seat_of (actor_of t)) e → Follows t e u → AreLinesOf s (entries ++ e ∷ []) (lines ++ line ∷ []) u
AreLinesOf-push s [] [] t e line u h is next = let same : t ≡ s = h in subst (λ (x : State). (line ≡ entry_text (seat_of (actor_of x)) e) × (m : State) × Follows x e m × (u ≡ m)) same (is, u, next, refl)
AreLinesOf-push s [] (first ∷ lines) t e line u h is next = absurd h
AreLinesOf-push s (f ∷ entries) [] t e line u h is next = absurd h
AreLinesOf-push s (f ∷ entries) (first ∷ lines) t e line u h is next = (h.0, h.1, h.2, AreLinesOf-push h.1 entries lines t e line u h.3 is next)

-- the same lines lead to the same standing
pub AreLinesOf-same : (s : State) (entries others : List Entry) (lines : List (List ℕ)) (t u : State) → AreLinesOf s entries lines t → AreLinesOf s others lines u → t ≡ u
AreLinesOf-same s [] [] [] t u h k = h ∙ sym k
AreLinesOf-same s [] [] (line ∷ lines) t u h k = absurd h
AreLinesOf-same s [] (f ∷ others) [] t u h k = absurd k
AreLinesOf-same s [] (f ∷ others) (line ∷ lines) t u h k = absurd h
AreLinesOf-same s (e ∷ entries) [] [] t u h k = absurd h
AreLinesOf-same s (e ∷ entries) [] (line ∷ lines) t u h k = absurd k
AreLinesOf-same s (e ∷ entries) (f ∷ others) [] t u h k = absurd h
AreLinesOf-same s (e ∷ entries) (f ∷ others) (line ∷ lines) t u h k =
    let same = one_line s line e f (h.0, (h.1, h.2)) (k.0, (k.1, k.2)) in
    let follows : Follows s e k.1 = subst (λ (x : Entry). Follows s x k.1) (sym same) k.2 in
    let next = Follows-same s e h.1 k.1 h.2 follows in
    AreLinesOf-same h.1 entries others lines t u h.3 (subst (λ (x : State). AreLinesOf x others lines u) (sym next) k.3)

-- the lines of a longer list begin with those of a shorter one, and the next line is that of an
-- entry that follows
pub AreLinesOf-next : (s : State) (entries : List Entry) (front : List (List ℕ)) (line : List ℕ) (lines : List (List ℕ)) (t : State)
    → AreLinesOf s entries (front ++ line ∷ lines) t → (first : List Entry) × (m : State) × AreLinesOf s first front m × ((e : Entry) × IsLineAt m line e)
AreLinesOf-next s [] [] line lines t h = absurd h
AreLinesOf-next s [] (first ∷ front) line lines t h = absurd h
AreLinesOf-next s (e ∷ entries) [] line lines t h = ([], s, refl, (e, (h.0, (h.1, h.2))))
AreLinesOf-next s (e ∷ entries) (first ∷ front) line lines t h =
    let rest = AreLinesOf-next h.1 entries front line lines t h.3 in
    (e ∷ rest.0, rest.1, (h.0, h.1, h.2, rest.2), rest.3)

-- what is read of the line of an entry that follows
pub read_of_line : (s : State) (line : List ℕ) (r : Result (Option Player × Entry) TextFault)
    → ((seat : Option Player) (e : Entry) → IsSeatOf seat e → IsEntry e → line ≡ entry_text seat e → r ≡ Ok (seat, e))
    → (e : Entry) → IsLineAt s line e → r ≡ Ok (seat_of (actor_of s), e)
read_of_line s line r only e at = only (seat_of (actor_of s)) e (seat_acts s e at.1.0 at.1.1) (Follows_in_range s e at.1.0 at.1.1) at.0

pub same_found : (r : Result (Option Player × Entry) TextFault) (found : Option Player × Entry) (seat : Option Player) (e : Entry)
    → r ≡ Ok found → r ≡ Ok (seat, e) → found.1 ≡ e
same_found r found seat e is read = cc

-- what a line says, where the test finds that it names no wrong seat
pub read_as : (s : State) (line : List ℕ) (r : Result (Option Player × Entry) TextFault) (seat : Option Player) (e : Entry) (wrong : Bool)
    → r ≡ Ok (seat, e) → IfOk r (λ found. IsSeatOf found.0 found.1 × IsEntry found.1 × (line ≡ entry_text found.0 found.1))
    → IsTrue wrong ↔ IsWrongSeat seat s → wrong ≡ false → IsReadAs s line e
read_as s line r seat e wrong is found tests right =
    let of = rw is at found in
    (seat, of.0, of.1, of.2, λ named. let wrongly : wrong ≡ true = tests.1 named in absurd (cc (wrongly, right)))

-- a line says one entry that may follow
pub read_alone : (s : State) (line : List ℕ) (r : Result (Option Player × Entry) TextFault) (seat : Option Player) (e : Entry)
    → r ≡ Ok (seat, e) → ((seat : Option Player) (e : Entry) → IsSeatOf seat e → IsEntry e → line ≡ entry_text seat e → r ≡ Ok (seat, e))
    → (f : Entry) → IsLineAt s line f → e ≡ f
read_alone s line r seat e is only f at = same_found r (seat, e) (seat_of (actor_of s)) f is (read_of_line s line r only f at)

-- two seats of players, neither of which is wrong beside the other
same_players : (p q : Player) → (p ≢ q → ⊥) → p ≡ q
same_players X X h = refl
same_players O O h = refl
same_players X O h = absurd (h (λ same. cc))
same_players O X h = absurd (h (λ same. cc))

same_makers : (seat acting : Option Player) (e : Entry) → IsSeatOf seat e → IsSeatOf acting e → ((p q : Player) → seat ≡ Some p → acting ≡ Some q → p ≢ q → ⊥) → seat ≡ acting
same_makers None None e h k fits = refl
same_makers None (Some q) e h k fits = let none = k.1 (h.0 refl) in absurd cc
same_makers (Some p) None e h k fits = let none = h.1 (k.0 refl) in absurd cc
same_makers (Some p) (Some q) e h k fits = ap Some (same_players p q (fits p q refl refl))

-- what is read and follows is the line of the seat that acts
pub line_at : (s : State) (line : List ℕ) (e : Entry) (t : State) → IsReadAs s line e → Follows s e t → IsLineAt s line e
line_at s line e t read follows =
    let acting = seat_of (actor_of s) in
    let same : read.0 ≡ acting = same_makers read.0 acting e read.1 (seat_acts s e t follows) (λ p q named acts differ. read.4 (p, q, named, acts, differ)) in
    (subst (λ (seat : Option Player). line ≡ entry_text seat e) same read.3, (t, follows))

module _ (r : Log) (s : State) (line : List ℕ) (stands : StandsAt r.terms r.entries s) where
  -- a line whose entry was added
  pub line_added : (e : Entry) (new : Log) → IsReadAs s line e → new.entries ≡ r.entries ++ e ∷ [] → new.terms ≡ r.terms → new.id ≡ r.id → IsLegalRecord new.terms new.entries → AddsLine r new line
  line_added e new read is same numbered legal =
      let legal_here : IsNext r.terms r.entries e = rw (is, same) at legal in
      let follows = Leads-last (start_of r.terms) r.entries e s legal_here.1.0 stands legal_here.1.1 in
      let more = length-append r.entries (e ∷ []) in
      (e, s, stands, line_at s line e legal_here.1.0 read follows, omega (arith, legal_here.0, more), is, same, numbered)

  -- the fault of an entry is that of its line
  refusal_of : (why : EntryFault) (e : Entry) → why ≢ entry_fault.Memory → IsRecordFault why r e → IsRefusal why (length r.entries) s e
  refusal_of entry_fault.RecordFull e other h = h
  refusal_of entry_fault.Memory e other h = absurd (other refl)
  refusal_of entry_fault.MatchOver e other h = (h.0, subst (λ (x : State). IsEntryFault entry_fault.MatchOver x e) (one_standing r.terms r.entries h.1.0 s h.1.1 stands) h.1.2)
  refusal_of entry_fault.WrongPhase e other h = (h.0, subst (λ (x : State). IsEntryFault entry_fault.WrongPhase x e) (one_standing r.terms r.entries h.1.0 s h.1.1 stands) h.1.2)
  refusal_of entry_fault.EqualOpening e other h = (h.0, subst (λ (x : State). IsEntryFault entry_fault.EqualOpening x e) (one_standing r.terms r.entries h.1.0 s h.1.1 stands) h.1.2)
  refusal_of (entry_fault.Turn turn) e other h = (h.0, subst (λ (x : State). IsEntryFault (entry_fault.Turn turn) x e) (one_standing r.terms r.entries h.1.0 s h.1.1 stands) h.1.2)
  refusal_of (entry_fault.NoDouble double) e other h = (h.0, subst (λ (x : State). IsEntryFault (entry_fault.NoDouble double) x e) (one_standing r.terms r.entries h.1.0 s h.1.1 stands) h.1.2)

  -- an entry that follows makes a legal record
  follows_legal : (e : Entry) → length r.entries < most_entries → IsLineAt s line e → IsNext r.terms r.entries e
  follows_legal e few at =
      let more = length-append r.entries (e ∷ []) in
      (omega (arith, more), (at.1.0, Leads-push (start_of r.terms) r.entries e s at.1.0 stands at.1.1))

  refused : (e : Entry) (why : EntryFault) → why ≢ entry_fault.Memory → IsReadAs s line e → ((f : Entry) → IsLineAt s line f → e ≡ f) → IsRecordFault why r e
      → (why ≢ entry_fault.Memory → IsNext r.terms r.entries e → ⊥) → RefusesLine (Refused (RefusedEntry why)) r line
  refused e why other read only fault illegal = (
    s,
    stands,
    (read.0, e, read.1, read.2, read.3, read.4, refusal_of why e other fault),
    λ f few at. illegal other (subst (λ (x : Entry). IsNext r.terms r.entries x) (sym (only f at)) (follows_legal f few at)),
  )

  -- a line whose entry was refused
  pub line_refused : (e : Entry) (why : EntryFault) → IsReadAs s line e → ((f : Entry) → IsLineAt s line f → e ≡ f) → IsRecordFault why r e
      → (why ≢ entry_fault.Memory → IsNext r.terms r.entries e → ⊥) → RefusesLine (fault_of_push why) r line
  line_refused e entry_fault.Memory read only fault illegal = tt
  line_refused e entry_fault.RecordFull read only fault illegal = refused e entry_fault.RecordFull (λ same. cc) read only fault illegal
  line_refused e entry_fault.MatchOver read only fault illegal = refused e entry_fault.MatchOver (λ same. cc) read only fault illegal
  line_refused e entry_fault.WrongPhase read only fault illegal = refused e entry_fault.WrongPhase (λ same. cc) read only fault illegal
  line_refused e entry_fault.EqualOpening read only fault illegal = refused e entry_fault.EqualOpening (λ same. cc) read only fault illegal
  line_refused e (entry_fault.Turn turn) read only fault illegal = refused e (entry_fault.Turn turn) (λ same. cc) read only fault illegal
  line_refused e (entry_fault.NoDouble double) read only fault illegal = refused e (entry_fault.NoDouble double) (λ same. cc) read only fault illegal

pub same_ok : (r : Result Entry LineFault) (e f : Entry) → r ≡ Ok e → r ≡ Ok f → e ≡ f
same_ok r e f is read = cc

-- a push that was refused, want of memory aside, was no legal one
pub refused_illegal : {P : Type 0} (r : Result (Unit {0}) EntryFault) (why : EntryFault) → r ≡ Err why → (r ≢ Err entry_fault.Memory → IsOk r ↔ P) → why ≢ entry_fault.Memory → P → ⊥
refused_illegal r why is ok other legal = let good : is_ok r ≡ true = (ok (λ memory. other cc)).1 legal in cc
