-- Lists of entries behind a record: the first that does not follow, and all that do.
use Rattle.std.proofs.Common.{◌≡◌, ℕ, suc, ◌+◌, ◌-◌, ◌<◌, ◌≤◌, true, false, Result, Ok, Err, List, [], ◌∷◌, ◌++◌, length, take, drop, get_or}
use Rattle.std.proofs.Common.{sym, ◌∙◌, ap, subst, arith, append_assoc, length-append}
use Rattle.std.specs.Prelude.{is_err, IsOk, OnOk, OnErr}
use Rattle.std.proofs.Math.Seq.{take-suc, split_at}
use Rattle.std.proofs.lemmas.List.{take_all, take_at, take-append-drop, length-take-le}
use Rattle.bg_match.specs.Limits.{most_entries}
use Rattle.bg_match.specs.Terms.{Terms}
use Rattle.bg_match.specs.declared.entries.Entry.{Entry}
use Rattle.bg_match.specs.Follows.{Follows, CanFollow}
use Rattle.bg_match.specs.Match.{IsLegalRecord, IsFirstIllegal, StandsAt, IsNext}
use Rattle.bg_match.specs.State.{State, start_of}
use Rattle.bg_match.proofs.Legal.{legal_fronts}
use Rattle.bg_match.proofs.Runs.{Leads-push, legal_follow}

-- a front of a legal record is legal, by its length
pub legal_take : (terms : Terms) (n : ℕ) (entries : List Entry) → IsLegalRecord terms entries
    → IsLegalRecord terms (take n entries)
legal_take terms n entries h =
    legal_fronts terms (take n entries) (drop n entries)
    (subst (IsLegalRecord terms) (sym (take-append-drop n entries)) h)

pub not_legal : (terms : Terms) (n : ℕ) (entries : List Entry) → IsFirstIllegal terms entries n
    → IsLegalRecord terms entries → ⊥
not_legal terms n entries first legal = first.illegal (legal_take terms n entries legal)

-- an entry that does not follow those before it, where others stand behind it
pub is_first_illegal : (terms : Terms) (n : ℕ) (front rest all : List Entry) (x : Entry) → n ≡ length front + 1
    → all ≡ (front ++ x ∷ []) ++ rest → IsLegalRecord terms front → (IsNext terms front x → ⊥)
    → IsFirstIllegal terms all n
is_first_illegal terms n front rest all x len is legal illegal =
    let more : length (front ++ x ∷ []) ≡ n = length-append front (x ∷ []) ∙ sym len in
    let taken : take n all ≡ front ++ x ∷ [] = ap (take n) is ∙ take_at (front ++ x ∷ []) rest n more in
    let before : take (n - 1) all ≡ front =
    ap (take (n - 1)) (is ∙ append_assoc front (x ∷ []) rest) ∙ take_at front (x ∷ rest) (n - 1) (omega arith) in
    record {
      first = omega arith;
      last = omega (arith, ap length is, length-append (front ++ x ∷ []) rest, more);
      before = subst (IsLegalRecord terms) (sym before) legal;
      illegal = λ h. illegal (subst (IsLegalRecord terms) taken h);
    }

-- one more of the new entries
pub more : (entries new : List Entry) (i : ℕ) (x : Entry) → i < length new → x ≡ get_or new i x
    → entries ++ take (i + 1) new ≡ (entries ++ take i new) ++ x ∷ []
more entries new i x within is =
    let next : i + 1 ≡ suc i = omega arith in
    ap (λ (n : ℕ). entries ++ take n new) next
    ∙ ap (λ (l : List Entry). entries ++ l) (take-suc new i x within)
    ∙ ap (λ (y : Entry). entries ++ (take i new ++ y ∷ [])) (sym is)
    ∙ sym (append_assoc entries (take i new) (x ∷ []))

-- those behind it are left
pub rest_of : (entries new : List Entry) (i : ℕ) (x : Entry) → i < length new → x ≡ get_or new i x
    → entries ++ new ≡ ((entries ++ take i new) ++ x ∷ []) ++ drop (suc i) new
rest_of entries new i x within is =
    ap (λ (l : List Entry). entries ++ l) (split_at new i x within)
    ∙ ap (λ (y : Entry). entries ++ (take i new ++ y ∷ drop (suc i) new)) (sym is)
    ∙ sym (append_assoc entries (take i new) (x ∷ drop (suc i) new))
    ∙ sym (append_assoc (entries ++ take i new) (x ∷ []) (drop (suc i) new))

-- an entry that follows leads on
pub goes_on : (terms : Terms) (entries new : List Entry) (i : ℕ) (x : Entry) (s t : State) → i < length new
    → x ≡ get_or new i x
    → StandsAt terms (entries ++ take i new) s → Follows s x t → StandsAt terms (entries ++ take (i + 1) new) t
goes_on terms entries new i x s t within is at follows =
    subst (λ (l : List Entry). StandsAt terms l t) (sym (more entries new i x within is))
    (Leads-push (start_of terms) (entries ++ take i new) x s t at follows)

-- an entry that may not follow those before it is the first such one
pub stops_at : (terms : Terms) (entries new : List Entry) (i n : ℕ) (x : Entry) → i < length new → x ≡ get_or new i x
    → n ≡ length (entries ++ take i new) + 1 → IsLegalRecord terms (entries ++ take i new)
    → (IsNext terms (entries ++ take i new) x → ⊥) → IsFirstIllegal terms (entries ++ new) n
stops_at terms entries new i n x within is number legal stuck =
    is_first_illegal terms n (entries ++ take i new) (drop (suc i) new) (entries ++ new) x number
    (rest_of entries new i x within is) legal stuck

-- an entry that cannot follow where the match stands, or comes behind the most
pub not_next : (terms : Terms) (entries : List Entry) (x : Entry) (s : State) → length entries < most_entries
    → StandsAt terms entries s → (CanFollow s x → ⊥) → IsNext terms entries x → ⊥
not_next terms entries x s few at stuck legal = stuck ((legal_follow terms entries x s at few).0 legal)

pub too_many : (terms : Terms) (entries : List Entry) (x : Entry) → most_entries ≤ length entries
    → IsNext terms entries x → ⊥
too_many terms entries x many legal = omega (arith, legal.0, length-append entries (x ∷ []))

-- all of the new entries, where so many are taken
pub with_all : (entries new : List Entry) (i : ℕ) → length new ≤ i → entries ++ take i new ≡ entries ++ new
with_all entries new i all = ap (λ (l : List Entry). entries ++ l) (take_all i new all)

-- so many of the new entries behind the others
pub length_with : (entries new : List Entry) (i : ℕ) → i ≤ length new
    → length (entries ++ take i new) ≡ length entries + i
length_with entries new i within =
    length-append entries (take i new) ∙ ap (λ (n : ℕ). length entries + n) (length-take-le i new within)

-- what a refusal says, and what an answer says
pub not_ok : {A E : Type 0} (r : Result A E) → is_err r ≡ true → IsOk r → ⊥
not_ok (Ok x) bad ok = cc
not_ok (Err e) bad ok = cc

pub on_ok : {A E : Type 0} (r : Result A E) (P : Type 0) → is_err r ≡ false → OnOk r P → P
on_ok (Ok x) P fine h = h
on_ok (Err e) P fine h = absurd cc

pub on_err : {A E : Type 0} (r : Result A E) (P : Type 0) → is_err r ≡ true → OnErr r P → P
on_err (Ok x) P bad h = absurd cc
on_err (Err e) P bad h = h
