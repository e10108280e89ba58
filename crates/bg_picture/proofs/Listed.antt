-- A page that is written entry by entry.
use Rattle.std.proofs.Common.{◌≡◌, ℕ, zero, suc, ◌+◌, ◌-◌, ◌≤◌, List, [], ◌∷◌, ◌++◌, length, take, Some, refl, sym, ◌∙◌, ap, subst, arith, append-nil, append_assoc}
use Rattle.std.proofs.Math.Seq.{take-length}
use Rattle.std.proofs.lemmas.List.{length-take-le}
use Rattle.bg_match.specs.Follows.{Follows, CanFollow}
use Rattle.bg_match.specs.Match.{Log, Leads, StandsAt, IsLegalRecord, at_number}
use Rattle.bg_match.specs.State.{State, start_of}
use Rattle.bg_match.specs.declared.entries.Entry.{Entry}
use Rattle.bg_match.proofs.Legal.{one_standing}
use Rattle.bg_text.proofs.Judged.WrittenLines.{entry_at}
use Rattle.bg_picture.specs.Items.{AreItemsOf, entry_items, game_start}
use Rattle.bg_picture.specs.Pages.{PutsEntries, IsPage, Words, page_start, page_end}
use Rattle.bg_picture.specs.declared.numberings.Numbering.{Numbering}

-- the items of the entries before this number stand behind an old text, and the match then stands
-- at s
pub record IsPartListed (log : Log) (number : ℕ) (old : List ℕ) (s : State) (text : List ℕ) : Type 0 where
  pub items : List ℕ
  pub each : AreItemsOf 1 (start_of log.terms) (take (number - 1) log.entries) items s
  pub written : text ≡ old ++ items

pub AreItemsOf-Leads : (first : ℕ) (s : State) (entries : List Entry) (text : List ℕ) (t : State) → AreItemsOf first s entries text t → Leads s entries t
AreItemsOf-Leads first s [] text t h = h.1
AreItemsOf-Leads first s (e ∷ entries) text t h = (h.0, h.2, AreItemsOf-Leads (first + 1) h.0 entries h.1 t h.4)

-- one more item at the end
pub AreItemsOf-push : (first : ℕ) (s : State) (entries : List Entry) (text : List ℕ) (t : State) (e : Entry) (next : State) (number : ℕ)
    → number ≡ first + length entries → AreItemsOf first s entries text t → Follows t e next
    → AreItemsOf first s (entries ++ e ∷ []) (text ++ entry_items number t e next) next
AreItemsOf-push first s [] text t e next number at h follows =
    let same : number ≡ first = omega arith in
    let here : text ++ entry_items number t e next ≡ entry_items first s e next ++ [] =
    rw (h.0, same, h.1) (sym (append-nil (entry_items first s e next))) in
    (next, [], subst (λ (x : State). Follows x e next) h.1 follows, here, (refl, refl))
AreItemsOf-push first s (f ∷ entries) text t e next number at h follows =
    let on : number ≡ first + 1 + length entries = omega arith in
    let rest = AreItemsOf-push (first + 1) h.0 entries h.1 t e next number on h.4 follows in
    let item = entry_items number t e next in
    let here : text ++ item ≡ entry_items first s f h.0 ++ (h.1 ++ item) =
    ap (λ x. x ++ item) h.3 ∙ append_assoc (entry_items first s f h.0) h.1 item in
    (h.0, h.1 ++ item, h.2, here, rest)

-- nothing is written yet
pub none_listed : (log : Log) (old : List ℕ) → IsPartListed log 1 old (start_of log.terms) old
none_listed log old = record {
  items = [];
  each = (refl, refl);
  written = sym (append-nil old);
}

-- the next entry may follow
pub next_follows : (log : Log) (number : ℕ) (old : List ℕ) (s : State) (text : List ℕ) (e : Entry)
    → IsLegalRecord log.terms log.entries → 1 ≤ number → IsPartListed log number old s text → at_number log.entries number ≡ Some e
    → CanFollow s e
next_follows log zero old s text e legal first part at = absurd (omega arith)
next_follows log (suc i) old s text e legal first part at =
    let here = entry_at (start_of log.terms) log.entries legal.1.0 i e legal.1.1 at in
    let back : suc i - 1 ≡ i = omega arith in
    let each : AreItemsOf 1 (start_of log.terms) (take i log.entries) part.items s =
    subst (λ (n : ℕ). AreItemsOf 1 (start_of log.terms) (take n log.entries) part.items s) back part.each in
    let same = one_standing log.terms (take i log.entries) here.0 s here.2
    (AreItemsOf-Leads 1 (start_of log.terms) (take i log.entries) part.items s each) in
    (here.1, subst (λ (x : State). Follows x e here.1) same here.3)

-- one more item is written
pub more_listed : (log : Log) (number : ℕ) (old : List ℕ) (s : State) (text : List ℕ) (e : Entry) (next : State) (new : List ℕ)
    → IsLegalRecord log.terms log.entries → 1 ≤ number → number ≤ length log.entries → IsPartListed log number old s text
    → at_number log.entries number ≡ Some e → Follows s e next → new ≡ text ++ entry_items number s e next
    → IsPartListed log (number + 1) old next new
more_listed log zero old s text e next new legal first last part at follows added = absurd (omega arith)
more_listed log (suc i) old s text e next new legal first last part at follows added =
    let here = entry_at (start_of log.terms) log.entries legal.1.0 i e legal.1.1 at in
    let back : suc i - 1 ≡ i = omega arith in
    let on : suc i + 1 - 1 ≡ suc i = omega arith in
    let each : AreItemsOf 1 (start_of log.terms) (take i log.entries) part.items s =
    subst (λ (n : ℕ). AreItemsOf 1 (start_of log.terms) (take n log.entries) part.items s) back part.each in
    let so_many : suc i ≡ 1 + length (take i log.entries) = omega (arith, length-take-le i log.entries (omega arith)) in
    let item = entry_items (suc i) s e next in
    record {
      items = part.items ++ item;
      each = rw (on, here.4) (AreItemsOf-push 1 (start_of log.terms) (take i log.entries) part.items s e next (suc i) so_many each follows);
      written = added ∙ (ap (λ x. x ++ item) part.written ∙ append_assoc old part.items item);
    }

-- all items are written
pub all_listed : (log : Log) (number : ℕ) (old : List ℕ) (s : State) (text : List ℕ) → number ≡ length log.entries + 1
    → IsPartListed log number old s text → PutsEntries log old text
all_listed log number old s text end part =
    let on : number - 1 ≡ length log.entries = omega arith in
    let all : take (number - 1) log.entries ≡ log.entries = ap (λ n. take n log.entries) on ∙ take-length log.entries in
    (part.items, s, subst (λ (xs : List Entry). AreItemsOf 1 (start_of log.terms) xs part.items s) all part.each, part.written)

-- the page is whole
pub whole_page : (words : Words) (numbering : Numbering) (seconds : ℕ) (log : Log) (s : State) (o p q r text : List ℕ)
    → StandsAt log.terms log.entries s → o ≡ [] → p ≡ o ++ page_start words numbering seconds
    → q ≡ p ++ game_start 0 (start_of log.terms) → PutsEntries log q r → text ≡ r ++ page_end numbering s
    → IsPage words numbering seconds log.terms log.entries text
whole_page words numbering seconds log s o p q r text stands none start first puts ended =
    let leads = AreItemsOf-Leads 1 (start_of log.terms) log.entries puts.0 puts.1 puts.2 in
    let same : puts.1 ≡ s = one_standing log.terms log.entries puts.1 s leads stands in
    let items : AreItemsOf 1 (start_of log.terms) log.entries puts.0 s =
    subst (λ (x : State). AreItemsOf 1 (start_of log.terms) log.entries puts.0 x) same puts.2 in
    (puts.0, s, items, rw (ended, puts.3, first, start, none) (simp append_assoc))
