-- Which line a fault names.
use Rattle.std.specs.Prelude.{◌≡◌, ◌↔◌, ℕ, ◌+◌, ◌≤◌, Bool, true, false, IsTrue, Option, Some, List, [], ◌∷◌, ◌++◌, Result, Ok, Err, IfErr, IfSome}
use Rattle.std.proofs.Common.{append_assoc, refl, sym, ◌∙◌, ap, subst, inl, inr}
use Rattle.std.specs.List.{AllByRecursion}
use Rattle.bg_mat.specs.Files.{HasCrawford, numbered}
use Rattle.bg_mat.specs.Rows.Headings.{IsFiller, IsHeader, IsLengthLine, SaysNoCrawford}
use Rattle.bg_text.specs.Judge.Judging.{lines_of}
use Rattle.bg_turns.specs.HasStep.{has_step}
use Rattle.bg_match.specs.Match.{empty_log}
use Rattle.bg_match.specs.Terms.{terms_of}
use Rattle.bg_match.specs.declared.limits.Rules.{Rules}
use Rattle.bg_mat.specs.ItemFaults.{IsPendingFault}
use Rattle.bg_mat.specs.Refusals.{AreRefused, AreRefusedGames, AreRefusedItems, IsBeginFault, IsReadFault, IsRefusedItem, IsRefusedLine, IsToldLine, Refuses, RefusesAt, RefusesPending}
use Rattle.bg_mat.specs.Replaying.{Begins, GoesOnBy, IsReplay, pending_items}
use Rattle.bg_mat.proofs.OfReading.Readings.{IsReadUpTo, all_before, both_cells}
use Rattle.bg_mat.proofs.OfReading.Replays.{stays}
use Rattle.bg_mat.specs.declared.awaiting.Awaited.{Awaited}
use Rattle.bg_mat.specs.Telling.{Item, Told}
use Rattle.bg_mat.specs.declared.faults.MatFault.{MatFault}
use Rattle.bg_mat.specs.declared.faults.MatFault.TheVariants as reason
use Rattle.bg_mat.specs.declared.faults.ReadFault.{ReadFault}
use Rattle.bg_mat.specs.declared.faults.ReadFault.TheVariants as read_fault
use Rattle.bg_mat.specs.declared.playing.PendingTurn.{PendingTurn}
use Rattle.bg_mat.specs.declared.playing.Replay.{Replay}

pub if_err : {A E : Type 0} {P Q : E → Type 0} (r : Result A E) → ((e : E) → P e → Q e) → IfErr r P → IfErr r Q
if_err (Ok x) f h = h
if_err (Err e) f h = f e h

-- the lines of which this holds tell the items
abbrev pub AreOn : (ℕ → Type 0) → List Told → Type 0
AreOn P told = AllByRecursion (λ (t : Told). P t.line) told

on_both : (P : ℕ → Type 0) (a b : List Told) → AreOn P a → AreOn P b → AreOn P (a ++ b)
on_both P [] b h k = k
on_both P (t ∷ a) b h k = (h.0, on_both P a b h.1 k)

on_right : (P : ℕ → Type 0) (a b : List Told) → AreOn P (a ++ b) → AreOn P b
on_right P [] b h = h
on_right P (t ∷ a) b h = on_right P a b h.1

on_line : (P : ℕ → Type 0) (n : ℕ) (items : List Item) → P n → AreOn P (numbered n items)
on_line P n [] h = tt
on_line P n (x ∷ items) h = (h, on_line P n items h)

-- the turn that is pending then was pending before, or is told by the new line
pub pending_on : (P : ℕ → Type 0) (old new : Replay) (n : ℕ) (items : List Item) → AreOn P (pending_items old.pending) → P n
    → GoesOnBy old new (numbered n items) → AreOn P (pending_items new.pending)
pending_on P old new n items before here goes =
    on_right P goes.told (pending_items new.pending)
    (subst (λ (told : List Told). AreOn P told) goes.same
    (on_both P (pending_items old.pending) (numbered n items) before (on_line P n items here)))

-- one of such lines and reasons is one of others
pub refuses : {F G : ℕ → MatFault → Type 0} (fault : ReadFault) → ((number : ℕ) (why : MatFault) → F number why → G number why)
    → Refuses F fault → Refuses G fault
refuses (read_fault.Refused number why) f h = f number why h
refuses read_fault.Memory f h = h

pub refuses_at : {F : MatFault → Type 0} {G : ℕ → MatFault → Type 0} (n : ℕ) (fault : ReadFault)
    → ((number : ℕ) (why : MatFault) → number ≡ n → F why → G number why) → RefusesAt n F fault → Refuses G fault
refuses_at n (read_fault.Refused number why) f h = f number why h.0 h.1
refuses_at n read_fault.Memory f h = h

pub why_at : {F G : MatFault → Type 0} (n : ℕ) (fault : ReadFault) → ((why : MatFault) → F why → G why)
    → RefusesAt n F fault → RefusesAt n G fault
why_at n (read_fault.Refused number why) f h = (h.0, f why h.1)
why_at n read_fault.Memory f h = h

-- an item behind none
pub one_refused : (r : Replay) (n : ℕ) (item : Item) (number : ℕ) (why : MatFault) → IsReplay r
    → IsRefusedItem r n item number why → AreRefusedItems r n (item ∷ []) number why
one_refused r n item number why kept h = record {
  before = [];
  item = item;
  behind = [];
  cut = refl;
  old = r;
  goes = stays r kept;
  refused = h;
}

-- one of the items of the first cell of a row
pub first_refused : (r : Replay) (n : ℕ) (a b : List Item) (number : ℕ) (why : MatFault) → AreRefusedItems r n a number why
    → AreRefusedItems r n (a ++ b) number why
first_refused r n a b number why h = record {
  before = h.before;
  item = h.item;
  behind = h.behind ++ b;
  cut = ap (λ (xs : List Item). xs ++ b) h.cut ∙ append_assoc h.before (h.item ∷ h.behind) b;
  old = h.old;
  goes = h.goes;
  refused = h.refused;
}

-- of the second one
pub second_refused : (r middle : Replay) (n : ℕ) (a b : List Item) (number : ℕ) (why : MatFault) → GoesOnBy r middle (numbered n a)
    → AreRefusedItems middle n b number why → AreRefusedItems r n (a ++ b) number why
second_refused r middle n a b number why goes h = record {
  before = a ++ h.before;
  item = h.item;
  behind = h.behind;
  cut = ap (λ (xs : List Item). a ++ xs) h.cut ∙ sym (append_assoc a h.before (h.item ∷ h.behind));
  old = h.old;
  goes = both_cells r middle h.old n a h.before goes h.goes;
  refused = h.refused;
}

-- where the line is this one, or that of the turn that is pending
items_on : (P : ℕ → Type 0) (r : Replay) (n : ℕ) (items : List Item) (number : ℕ) (why : MatFault)
    → AreOn P (pending_items r.pending) → P n → AreRefusedItems r n items number why → P number
items_on P r n items number why before here a =
    let on : AreOn P (pending_items a.old.pending) = pending_on P r a.old n a.before before here a.goes in
    elim a.refused.refused [
      | inl (turn, is, at, fault) ↦
          let there : AreOn P (pending_items (Some turn)) = subst (λ (p : Option PendingTurn). AreOn P (pending_items p)) is on in
          subst P (sym at) there.0
      | inr (closed, by, at, fault) ↦ subst P (sym at) here
    ]

line_on : (P : ℕ → Type 0) (here : Awaited) (r : Replay) (line : List ℕ) (n number : ℕ) (why : MatFault)
    → AreOn P (pending_items r.pending) → P n → IsRefusedLine here r line n number why → P number
line_on P here r line n number why before at (inl (is, shape)) = subst P (sym is) at
line_on P here r line n number why before at (inr (inl h)) = subst P (sym h.0) at
line_on P here r line n number why before at (inr (inr (items, next, tells, a))) = items_on P r n items number why before at a

pub told_here : (from : Replay) (first : ℕ) (input : List ℕ) (now : Replay) (here : Awaited) (n : ℕ) (rest line after : List ℕ)
    → IsReadUpTo from first input now here n rest → lines_of rest ≡ line ∷ lines_of after → (IsFiller line → ⊥)
    → IsToldLine first (lines_of input) n
told_here from first input now here n rest line after r split none = record {
  before = r.before;
  line = line;
  behind = lines_of after;
  cut = r.cut ∙ ap (λ (ls : List (List ℕ)). r.before ++ ls) split;
  number_is = r.number_is;
  no_filler = none;
}

-- a line is refused behind those before it
pub line_refused : (from : Replay) (first : ℕ) (input : List ℕ) (now : Replay) (here : Awaited) (n : ℕ) (rest line after : List ℕ) (fault : ReadFault)
    → IsReadUpTo from first input now here n rest → lines_of rest ≡ line ∷ lines_of after → (IsFiller line → ⊥)
    → AreOn (IsToldLine first (lines_of input)) (pending_items now.pending) → Refuses (IsRefusedLine here now line n) fault
    → Refuses (AreRefusedGames from first (lines_of input)) fault
line_refused from first input now here n rest line after read_fault.Memory r split none on h = tt
line_refused from first input now here n rest line after (read_fault.Refused number why) r split none on h = (
  line_on (IsToldLine first (lines_of input)) here now line n number why on
      (told_here from first input now here n rest line after r split none) h,
  inl record {
    before = r.before;
    line = line;
    behind = lines_of after;
    cut = r.cut ∙ ap (λ (ls : List (List ℕ)). r.before ++ ls) split;
    no_filler = none;
    told = r.told;
    here = here;
    file = r.file;
    r = now;
    goes = r.goes;
    refused = subst (λ (m : ℕ). IsRefusedLine here now line m number why) r.number_is h;
  },
)

-- the dice that are pending at the end
pub end_refused : (from : Replay) (first : ℕ) (input : List ℕ) (now : Replay) (here : Awaited) (n : ℕ) (rest : List ℕ) (fault : ReadFault) (alone : Bool)
    → IsReadUpTo from first input now here n rest → rest ≡ [] → AreOn (IsToldLine first (lines_of input)) (pending_items now.pending)
    → RefusesPending alone now fault
    → IfSome now.pending (λ turn. alone ≡ has_step now.standing.board turn.player turn.dice)
    → Refuses (AreRefusedGames from first (lines_of input)) fault
end_refused from first input now here n rest read_fault.Memory alone r none on h is = tt
end_refused from first input now here n rest (read_fault.Refused number why) alone r none on (turn, pends, h) is =
    let there : AreOn (IsToldLine first (lines_of input)) (pending_items (Some turn)) =
    subst (λ (p : Option PendingTurn). AreOn (IsToldLine first (lines_of input)) (pending_items p)) pends on in
    let same : alone ≡ has_step now.standing.board turn.player turn.dice =
    subst (λ (p : Option PendingTurn). IfSome p (λ t. alone ≡ has_step now.standing.board t.player t.dice)) pends is in (
      subst (IsToldLine first (lines_of input)) (sym h.0) there.0,
      inr record {
        told = r.told;
        here = here;
        file = all_before from first input now here n rest r none;
        r = now;
        goes = r.goes;
        turn = turn;
        pending = pends;
        number_is = h.0;
        refused = subst (λ (b : Bool). IsPendingFault b now.log now.standing turn.player turn.dice why) same h.1;
      },
    )

-- how a fault of what is left is one of the whole
abbrev pub RefusesFrom : ℕ → Rules → List ℕ → ℕ → List ℕ → Type 0
RefusesFrom id rules input n rest =
    (number : ℕ) (why : MatFault) → AreRefused id rules n (lines_of rest) number why → AreRefused id rules 1 (lines_of input) number why

pub filler_refused : (id : ℕ) (rules : Rules) (input : List ℕ) (n : ℕ) (rest line after : List ℕ) (counts taken : Bool)
    → RefusesFrom id rules input n rest → lines_of rest ≡ line ∷ lines_of after → IsHeader line
    → IsTrue counts ↔ HasCrawford (lines_of after) → IsTrue taken ↔ ((counts ≡ true) × SaysNoCrawford line) → taken ≡ false
    → RefusesFrom id rules input (n + 1) after
filler_refused id rules input n rest line after counts taken from split filler has takes not number why h =
    from number why (rw split (inl (filler, inr (never, h)))) where
      never : SaysNoCrawford line → HasCrawford (lines_of after) → ⊥
      never says crawford =
          let c : counts ≡ true = has.1 crawford in
          let t : taken ≡ true = takes.1 (c, says) in
          absurd (cc (t, not))

-- a header takes the Crawford game away
pub crawford_refused : (id : ℕ) (rules : Rules) (input : List ℕ) (n : ℕ) (rest line after : List ℕ) (counts taken : Bool)
    → RefusesFrom id rules input n rest → lines_of rest ≡ line ∷ lines_of after → IsHeader line
    → IsTrue counts ↔ HasCrawford (lines_of after) → IsTrue taken ↔ ((counts ≡ true) × SaysNoCrawford line) → taken ≡ true
    → AreRefused id rules 1 (lines_of input) n reason.NoCrawford
crawford_refused id rules input n rest line after counts taken from split header has takes is =
    let both = takes.0 is in from n reason.NoCrawford (rw split (inl (header, inl (refl, refl, both.1, has.0 both.0))))

pub begin_refused : (id : ℕ) (rules : Rules) (input : List ℕ) (n : ℕ) (rest line after : List ℕ) (fault : ReadFault) → RefusesFrom id rules input n rest
    → lines_of rest ≡ line ∷ lines_of after → (IsHeader line → ⊥) → IsBeginFault line n fault
    → IsReadFault id rules (lines_of input) fault
begin_refused id rules input n rest line after read_fault.Memory from split none h = tt
begin_refused id rules input n rest line after (read_fault.Refused number why) from split none h =
    from number why (rw split (inr (none, inl h)))

pub games_refused : (id : ℕ) (rules : Rules) (input : List ℕ) (n points : ℕ) (rest line after : List ℕ) (fault : ReadFault) → RefusesFrom id rules input n rest
    → lines_of rest ≡ line ∷ lines_of after → (IsHeader line → ⊥) → IsLengthLine line points → 1 ≤ points → points ≤ 99
    → (r : Replay) → Begins (empty_log id (terms_of points rules)) r
    → Refuses (AreRefusedGames r (n + 1) (lines_of after)) fault → IsReadFault id rules (lines_of input) fault
games_refused id rules input n points rest line after read_fault.Memory from split none is low high r begins h = tt
games_refused id rules input n points rest line after (read_fault.Refused number why) from split none is low high r begins h =
    from number why (rw split (inr (none, inr (points, is, low, high, (r, begins, h)))))
