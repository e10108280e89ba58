-- A follower whose record grows.
use Rattle.std.proofs.Common.{◌≡◌, ℕ, ◌+◌, ◌-◌, ◌≤◌, nat_lt, Bool, false, Option, Some, None, List, [], ◌∷◌, ◌++◌, length}
use Rattle.std.proofs.Common.{take, drop, if◌then◌else◌, refl, sym, ◌∙◌, ap, subst, arith, append_assoc, length-append}
use Rattle.std.proofs.Math.Seq.{take-append-add}
use Rattle.std.proofs.lemmas.List.{append-nil, length-drop, take_all}
use Rattle.std.proofs.lemmas.Bool.Decides.{nat_tests}
use Rattle.bg_match.specs.Limits.{most_entries}
use Rattle.bg_match.specs.declared.entries.Entry.{Entry}
use Rattle.bg_match.specs.Match.{Log, IsLegalRecord, IsFirstIllegal}
use Rattle.bg_match.specs.Terms.{Terms, rules_of}
use Rattle.bg_wire.specs.declared.packets.Packet.TheVariants as packet
use Rattle.bg_party.specs.declared.outcomes.Learned.{Learned}
use Rattle.bg_party.specs.declared.outcomes.Learned.TheVariants as learned
use Rattle.bg_party.specs.Retry.{at_once}
use Rattle.bg_party.specs.Views.{FollowerView}
use Rattle.bg_party.specs.Window.{unbroken, early_behind}
use Rattle.bg_party.specs.Learns.{FollowsFor, Joins, Extends, GrowsBy, Teaches, coming, new_entries}
use Rattle.bg_party.specs.Takes.{IsAfter, Appends, LearnsNew, grown_with}

unbroken_short : (early : List (Option Entry)) → length (unbroken early) ≤ length early
unbroken_short [] = omega arith
unbroken_short (None ∷ rest) = omega arith
unbroken_short (Some e ∷ rest) = let h = unbroken_short rest in omega arith

-- all that comes has a number
pub early_fits : (early : List (Option Entry)) (held new most : ℕ) → held + length early ≤ most → held + new ≤ most
    → held + new + length (early_behind early new) ≤ most
early_fits early held new most all some =
    let short = unbroken_short (drop new early) in
    let size = length-drop new early in
    omega arith

-- so many of the early entries follow behind the new ones, so those and the new ones follow, and no
-- more
pub follow_together : (terms : Terms) (entries new early : List Entry) (count : ℕ)
    → FollowsFor terms (entries ++ new) early count
    → FollowsFor terms entries (new ++ early) (length new + count)
follow_together terms entries new early count h =
    let size = length-append new early in
    record {
      within = omega (arith, h.within);
      legal = subst (IsLegalRecord terms) (same count) h.legal;
      no_more = λ left legal.
          let next : length new + count + 1 ≡ length new + (count + 1) = omega arith in
          h.no_more (omega arith) (subst (IsLegalRecord terms) (sym (same (count + 1))) (rw next at legal));
    }
  where
    same : (n : ℕ) → (entries ++ new) ++ take n early ≡ entries ++ take (length new + n) (new ++ early)
    same n = append_assoc entries new (take n early)
        ∙ ap (λ (l : List Entry). entries ++ l) (sym (take-append-add new early n))

-- the record with the new entries, and then with those early ones
pub grown_by : (f : FollowerView) (new early : List Entry) (count : ℕ) (a b d : Log) (places : List (Option Entry))
    → a ≡ record (f.log) { spare = a.spare } → b ≡ record a { entries = a.entries ++ new; spare = b.spare }
    → d ≡ record b { entries = b.entries ++ take count early; spare = d.spare }
    → places ≡ (if nat_lt count (length early) then [] else drop (length new + count) f.early)
    → record { log = d; early = places; retry = at_once } ≡ grown_with f (new ++ early) (length new + count) d.spare
grown_by f new early count a b d places ha hb hd hp =
    let test : nat_lt (length new + count) (length (new ++ early)) ≡ nat_lt count (length early) =
    rw length-append (same_test (length new) count (length early)) in
    let entries : d.entries ≡ f.log.entries ++ take (length new + count) (new ++ early) =
    ap (λ (l : Log). l.entries) hd ∙ ap (λ (l : Log). l.entries ++ take count early) hb
    ∙ ap (λ (l : Log). (l.entries ++ new) ++ take count early) ha
    ∙ append_assoc f.log.entries new (take count early)
    ∙ ap (λ (l : List Entry). f.log.entries ++ l) (sym (take-append-add new early count)) in
    let log : d ≡ record
    (f.log) { entries = f.log.entries ++ take (length new + count) (new ++ early); spare = d.spare } =
    hd ∙ ap (λ (l : Log). record l { entries = l.entries ++ take count early; spare = d.spare }) hb
    ∙ ap (λ (l : Log). record l { entries = (l.entries ++ new) ++ take count early; spare = d.spare }) ha
    ∙ ap (λ (l : List Entry). record (f.log) { entries = l; spare = d.spare })
    (append_assoc f.log.entries new (take count early)
    ∙ ap (λ (l : List Entry). f.log.entries ++ l) (sym (take-append-add new early count))) in
    ap (λ (l : Log). record { log = l; early = places; retry = at_once }) log
    ∙ ap (λ (p : List (Option Entry)). record {
      log =
          record (f.log) { entries = f.log.entries ++ take (length new + count) (new ++ early); spare = d.spare };
      early =
          p;
      retry = at_once;
    })
    (hp ∙ ap (λ (t : Bool). if t then [] else drop (length new + count) f.early) (sym test))
  where
    same_test : (n a b : ℕ) → nat_lt (n + a) (n + b) ≡ nat_lt a b
    same_test n a b = grind (arith, nat_tests)

-- new entries that follow, and the early ones behind them, are what the list teaches
pub appends_all : (f : FollowerView) (start : ℕ) (list new early : List Entry) (count : ℕ) (l : Learned)
    (after : FollowerView)
    → new ≡ new_entries f.log.entries start list → early ≡ early_behind f.early (length new)
    → Extends f.log.terms f.log.entries start list → FollowsFor f.log.terms (f.log.entries ++ new) early count
    → Appends f new early count l after
    → Teaches f start list l × IsAfter f (packet.Entries f.log.id (rules_of f.log.terms) start list) l after
appends_all f start list new early count l after same_new same_early extends follows h =
    let all : new ++ early ≡ coming f start list = rw (same_early, same_new) refl in
    let grows : GrowsBy f start list (length new + count) = (
      extends,
      subst (λ (x : List Entry). FollowsFor f.log.terms f.log.entries x (length new + count)) all
          (follow_together f.log.terms f.log.entries new early count follows),
    ) in
    by_cases l all grows h
  where
    by_cases : (l : Learned) → new ++ early ≡ coming f start list → GrowsBy f start list (length new + count)
        → Appends f new early count l after
        → Teaches f start list l × IsAfter f (packet.Entries f.log.id (rules_of f.log.terms) start list) l after
    by_cases learned.Memory all grows h = ((length new + count, grows, h.0), h.1)
    by_cases (learned.Grew k) all grows h = (
      subst (GrowsBy f start list) (sym h.0) grows,
      (h.1 ∙ ap (λ (x : List Entry). grown_with f x k after.log.spare) all, h.2),
    )
    by_cases learned.OtherMatch all grows h = absurd h
    by_cases learned.Nothing all grows h = absurd h
    by_cases (learned.Conflict n) all grows h = absurd h
    by_cases learned.Gap all grows h = absurd h
    by_cases (learned.Illegal n) all grows h = absurd h

-- new entries are appended alone, where no early one comes behind them
pub appends_alone : (f : FollowerView) (new early : List Entry) (k : ℕ) (log : Log) (places : List (Option Entry))
    → early ≡ [] → k ≡ length new → log ≡ record (f.log) { entries = f.log.entries ++ new; spare = log.spare }
    → (length new ≤ f.log.spare → log.spare + length new ≡ f.log.spare) → places ≡ drop (length new) f.early
    → Appends f new early 0 (learned.Grew k) (record { log = log; early = places; retry = at_once })
appends_alone f new early k log places none many is room left =
    let list : new ++ early ≡ new = ap (λ (l : List Entry). new ++ l) none ∙ append-nil new in
    let taken : take k (new ++ early) ≡ new = ap (take k) list ∙ take_all k new (omega arith) in
    let test : nat_lt k (length (new ++ early)) ≡ false = ap (λ (l : List Entry). nat_lt k (length l)) list ∙ not_less k (length new) many in (
      omega arith,
      ap (λ (l : Log). record { log = l; early = places; retry = at_once })
          (is ∙ ap (λ (l : List Entry). record (f.log) { entries = f.log.entries ++ l; spare = log.spare }) (sym taken))
          ∙ ap (λ (p : List (Option Entry)). record {
            log = record (f.log) { entries = f.log.entries ++ take k (new ++ early); spare = log.spare };
            early = p;
            retry = at_once;
          })
          (left ∙ ap (λ (n : ℕ). drop n f.early) (sym many)
          ∙ ap (λ (t : Bool). if t then [] else drop k f.early) (sym test)),
      λ enough. omega (arith, room (omega arith)),
    )
  where
    not_less : (a b : ℕ) → a ≡ b → nat_lt a b ≡ false
    not_less a b h = grind (arith, nat_tests)

pub follows_none : (terms : Terms) (entries early : List Entry) → early ≡ [] → IsLegalRecord terms entries
    → FollowsFor terms entries early 0
follows_none terms entries early none legal = record {
  within = omega arith;
  legal = subst (IsLegalRecord terms) (sym (append-nil entries)) legal;
  no_more = λ left. absurd (omega (arith, ap length none));
}

-- new entries that join what is held, and follow
extends_by : (f : FollowerView) (start : ℕ) (list new : List Entry) → new ≡ new_entries f.log.entries start list
    → Joins f.log.entries start list → (new ≡ [] → ⊥) → IsLegalRecord f.log.terms (f.log.entries ++ new)
    → Extends f.log.terms f.log.entries start list
extends_by f start list new same joins some legal = (
  joins,
  λ none. some (same ∙ none),
  subst (λ (x : List Entry). IsLegalRecord f.log.terms (f.log.entries ++ x)) same legal,
)

-- what new entries that join what is held teach is what the list teaches
pub list_teaches : (f : FollowerView) (start : ℕ) (list new : List Entry) (l : Learned) (after : FollowerView)
    → new ≡ new_entries f.log.entries start list → Joins f.log.entries start list → (new ≡ [] → ⊥)
    → LearnsNew f new l after
    → Teaches f start list l × IsAfter f (packet.Entries f.log.id (rules_of f.log.terms) start list) l after
list_teaches f start list new learned.OtherMatch after same joins some h = absurd h.3
list_teaches f start list new learned.Nothing after same joins some h = absurd h.3
list_teaches f start list new (learned.Conflict n) after same joins some h = absurd h.3
list_teaches f start list new learned.Gap after same joins some h = absurd h.3
list_teaches f start list new (learned.Illegal n) after same joins some h =
    ((joins, subst (λ (x : List Entry). IsFirstIllegal f.log.terms (f.log.entries ++ x) n) same h.0), h.1)
list_teaches f start list new learned.Memory after same joins some h =
    appends_all f start list new (early_behind f.early (length new)) h.0 learned.Memory after same refl
    (extends_by f start list new same joins some h.1) h.2 h.3
list_teaches f start list new (learned.Grew k) after same joins some h =
    appends_all f start list new (early_behind f.early (length new)) h.0 (learned.Grew k) after same refl
    (extends_by f start list new same joins some h.1) h.2 h.3

-- the new entries of a list have numbers
pub new_fits : (entries : List Entry) (start : ℕ) (list : List Entry) → 1 ≤ start → start ≤ length entries + 1
    → start + length list ≤ most_entries + 1
    → length entries ≤ most_entries → length entries + length (new_entries entries start list) ≤ most_entries
new_fits entries start list low joins last few =
    let size = length-drop (length entries + 1 - start) list in omega arith

pub nothing_in : (xs : List Entry) → length xs ≡ 0 → xs ≡ []
nothing_in [] h = refl
nothing_in (x ∷ xs) h = absurd cc

pub something_in : (xs : List Entry) → (length xs ≡ 0 → ⊥) → xs ≡ [] → ⊥
something_in xs h none = h (ap length none)
