-- What a follower holds or keeps was told under its own number.
use Rattle.std.proofs.Common.{◌≡◌, ◌≢◌, ◌⊎◌, inl, inr, ℕ, zero, suc, ◌+◌, ◌-◌, ◌<◌, ◌≤◌, nat_lt, Bool, true, false}
use Rattle.std.proofs.Common.{if◌then◌else◌, Option, Some, None, List, [], ◌∷◌, ◌++◌, length, take, drop, slice_get}
use Rattle.std.proofs.Common.{refl, sym, ◌∙◌, ap, subst, arith, length-append}
use Rattle.std.proofs.lemmas.List.{length-take-le}
use Rattle.bg_match.specs.Terms.{rules_of}
use Rattle.bg_match.specs.declared.limits.Rules.{Rules}
use Rattle.bg_match.specs.declared.entries.Entry.{Entry}
use Rattle.bg_match.specs.Match.{Log, at_number}
use Rattle.bg_wire.specs.declared.packets.Packet.{Packet}
use Rattle.bg_wire.specs.declared.packets.Packet.TheVariants as packet
use Rattle.bg_wire.proofs.Numbers.{get_taken}
use Rattle.bg_party.specs.declared.outcomes.Learned.{Learned}
use Rattle.bg_party.specs.declared.outcomes.Learned.TheVariants as learned
use Rattle.bg_party.specs.Views.{FollowerView, IsFollower, IsEarly}
use Rattle.bg_party.specs.Window.{at_place, unbroken, early_behind, window_size}
use Rattle.bg_party.specs.Learns.{Learns, TeachesWithin, coming, new_entries}
use Rattle.bg_party.specs.Takes.{IsAfter, Stores, Tells, IsTold, IsAllTold, grown_with}

-- an element of two lists is one of the first or one of the second
split : (xs ys : List Entry) (i : ℕ) (e : Entry) → slice_get (xs ++ ys) i ≡ Some e
    → (slice_get xs i ≡ Some e) ⊎ ((j : ℕ) × (i ≡ length xs + j) × (slice_get ys j ≡ Some e))
split [] ys i e h = inr (i, omega arith, h)
split (x ∷ xs) ys zero e h = inl h
split (x ∷ xs) ys (suc i) e h = elim (split xs ys i e h) [ inl p ↦ inl p | inr p ↦ inr (p.0, omega (arith, p.1), p.2) ]

-- the same by numbers
split_number : (xs ys : List Entry) (n : ℕ) (e : Entry) → at_number (xs ++ ys) n ≡ Some e
    → (at_number xs n ≡ Some e) ⊎ ((j : ℕ) × (n ≡ length xs + 1 + j) × (slice_get ys j ≡ Some e))
split_number xs ys zero e h = inl h
split_number xs ys (suc i) e h = elim (split xs ys i e h) [ inl p ↦ inl p | inr p ↦ inr (p.0, omega (arith, p.1), p.2) ]

get_dropped : (h : ℕ) (xs : List Entry) (j : ℕ) (e : Entry) → slice_get (drop h xs) j ≡ Some e
    → slice_get xs (h + j) ≡ Some e
get_dropped zero xs j e at = let same : zero + j ≡ j = omega arith in rw same at
get_dropped (suc h) [] j e at = absurd cc
get_dropped (suc h) (x ∷ xs) j e at = let same : suc h + j ≡ suc (h + j) =
    omega arith in rw same (get_dropped h xs j e at)

no_place : (i : ℕ) (e : Entry) → at_place [] i ≡ Some e → ⊥
no_place zero e at = cc
no_place (suc i) e at = cc

place_within : (early : List (Option Entry)) (i : ℕ) (e : Entry) → at_place early i ≡ Some e → i < length early
place_within [] i e at = absurd (no_place i e at)
place_within (x ∷ early) zero e at = omega arith
place_within (x ∷ early) (suc i) e at = let h = place_within early i e at in omega arith

slice_get_some : (xs : List Entry) (i : ℕ) → i < length xs → slice_get xs i ≡ None → ⊥
slice_get_some [] i less at = omega arith
slice_get_some (x ∷ xs) zero less at = cc
slice_get_some (x ∷ xs) (suc i) less at = slice_get_some xs i (omega arith) at

nat_order : (a b : ℕ) → (a < b) ⊎ (b ≤ a)
nat_order a zero = inr (omega arith)
nat_order zero (suc b) = inl (omega arith)
nat_order (suc a) (suc b) = elim (nat_order a b) [ inl p ↦ inl (omega arith) | inr p ↦ inr (omega arith) ]

place_dropped : (h : ℕ) (early : List (Option Entry)) (j : ℕ) (e : Entry) → at_place (drop h early) j ≡ Some e
    → at_place early (h + j) ≡ Some e
place_dropped zero early j e at = let same : zero + j ≡ j = omega arith in rw same at
place_dropped (suc h) [] j e at = absurd (no_place j e at)
place_dropped (suc h) (x ∷ early) j e at = let same : suc h + j ≡ suc (h + j) =
    omega arith in rw same (place_dropped h early j e at)

-- the entries of an unbroken list stand at their places
place_unbroken : (early : List (Option Entry)) (j : ℕ) (e : Entry) → slice_get (unbroken early) j ≡ Some e
    → at_place early j ≡ Some e
place_unbroken [] j e at = absurd cc
place_unbroken (None ∷ rest) j e at = absurd cc
place_unbroken (Some x ∷ rest) zero e at = at
place_unbroken (Some x ∷ rest) (suc j) e at = place_unbroken rest j e at

-- each of the coming entries was told
pub coming_told : (f : FollowerView) (id : ℕ) (rules : Rules) (start : ℕ) (list : List Entry) (j : ℕ) (e : Entry) → (id ≡ f.log.id) × (rules ≡ rules_of f.log.terms)
    → start ≤ length f.log.entries + 1
    → slice_get (coming f start list) j ≡ Some e
    → IsTold f (packet.Entries id rules start list) (length f.log.entries + 1 + j) e
coming_told f id rules start list j e same joins at =
    let new = new_entries f.log.entries start list in
    elim (split new (early_behind f.early (length new)) j e at) [
      | inl p ↦
          let held = length f.log.entries + 1 - start in
          inl (same, (held + j, omega arith, get_dropped held list j e p))
      | inr p ↦ inr (
        length new + p.0,
        omega (arith, p.1),
        place_dropped (length new) f.early p.0 e
            (place_unbroken (drop (length new) f.early) p.0 e p.2),
      )
    ]

-- what stays behind the appended entries was kept under the same number
stays : (f : FollowerView) (k n i : ℕ) (e : Entry) (many : ℕ) → many ≡ length f.log.entries + k → n ≡ many + 1 + i
    → at_place (drop k f.early) i ≡ Some e → IsEarly f n e
stays f k n i e many size is at = (k + i, omega arith, place_dropped k f.early i e at)

same_told : (old : FollowerView) (p : Packet) (new : FollowerView) → new ≡ old → IsAllTold old p new
same_told old p new same =
    subst (IsAllTold old p) (sym same) (record { held = λ n e at. inl at; early = λ n e is. inr is })

grown_told : (old : FollowerView) (id : ℕ) (rules : Rules) (start : ℕ) (list : List Entry) (k spare : ℕ) → (id ≡ old.log.id) × (rules ≡ rules_of old.log.terms)
    → start ≤ length old.log.entries + 1
    → k ≤ length (coming old start list)
    → IsAllTold old (packet.Entries id rules start list) (grown_with old (coming old start list) k spare)
grown_told old id rules start list k spare same joins within =
    let many : length (old.log.entries ++ take k (coming old start list)) ≡ length old.log.entries + k =
    length-append old.log.entries (take k (coming old start list))
    ∙ ap (λ (n : ℕ). length old.log.entries + n) (length-take-le k (coming old start list) within) in
    record {
      held = λ n e at. elim (split_number old.log.entries (take k (coming old start list)) n e at) [
        | inl p ↦ inl p
        | inr p ↦ inr
            (subst (λ (m : ℕ). IsTold old (packet.Entries id rules start list) m e) (sym p.1)
            (coming_told old id rules start list p.0 e same joins (get_taken k (coming old start list) p.0 e p.2)))
      ];
      early = λ n e is. inr
          (left (nat_lt k (length (coming old start list))) n e
          (length (old.log.entries ++ take k (coming old start list))) many is.0 is.1 is.2);
    }
  where
    left : (stuck : Bool) (n : ℕ) (e : Entry) (many : ℕ) → many ≡ length old.log.entries + k → (i : ℕ)
        → n ≡ many + 1 + i
        → at_place (if stuck then [] else drop k old.early) i ≡ Some e → IsEarly old n e
    left true n e many size i is at = absurd (no_place i e at)
    left false n e many size i is at = stays old k n i e many size is at

stored_told : (old : FollowerView) (id : ℕ) (rules : Rules) (start : ℕ) (list : List Entry) (new : FollowerView) → (id ≡ old.log.id) × (rules ≡ rules_of old.log.terms)
    → length old.log.entries + 1 < start
    → length new.early ≤ window_size → Stores old start list new → IsAllTold old (packet.Entries id rules start list) new
stored_told old id rules start list new same gap few h =
    let log : new.log ≡ old.log = ap (λ (f : FollowerView). f.log) h.1 in
    let first = start - (length old.log.entries + 1) in
    record {
      held = λ n e at. inl (subst (λ (l : Log). at_number l.entries n ≡ Some e) log at);
      early = λ n e is.
          let number : n ≡ length old.log.entries + 1 + is.0 = is.1
          ∙ ap (λ (l : Log). length l.entries + 1 + is.0) log in
          place n e is.0 first refl number is.2;
    }
  where
    told : (n : ℕ) (e : Entry) (i first j : ℕ) (x : Option Entry) → first ≡ start - (length old.log.entries + 1)
        → n ≡ length old.log.entries + 1 + i
        → i ≡ first + j → i < window_size → j < length list → slice_get list j ≡ x → at_place new.early i ≡ Some e
        → Tells old.log.id old.log.terms (packet.Entries id rules start list) n e
    told n e i first j None is number there within less at kept = absurd (slice_get_some list j less at)
    told n e i first j (Some x) is number there within less at kept =
        let same_place : at_place new.early (first + j) ≡ Some x =
        rw is (h.0.told j x at (rw (← is, ← there) within)) in
        let entry : Some e ≡ Some x = sym kept ∙ ap (at_place new.early) there ∙ same_place in
        (same, (j, omega arith, at ∙ sym entry))

    place : (n : ℕ) (e : Entry) (i first : ℕ) → first ≡ start - (length old.log.entries + 1)
        → n ≡ length old.log.entries + 1 + i
        → at_place new.early i ≡ Some e → IsTold old (packet.Entries id rules start list) n e
    place n e i first is number kept = elim (nat_order i first) [
      | inl less ↦ inr (i, number, sym (h.0.before i (rw (← is) less)) ∙ kept)
      | inr more ↦ elim (nat_order i (first + length list)) [
        | inl within ↦ inl
            (told n e i first (i - first) (slice_get list (i - first)) is number (omega arith)
            (let w = place_within new.early i e kept in omega arith) (omega arith) refl kept)
        | inr behind ↦ inr (i, number, sym (h.0.behind i (rw (← is) behind)) ∙ kept)
      ]
    ]

no_entries_told : (old : FollowerView) (p : Packet) (l : Learned) (new : FollowerView) → l ≡ learned.Nothing
    → IsAfter old p l new → IsAllTold old p new
no_entries_told old p learned.Nothing new is after = same_told old p new after
no_entries_told old p learned.OtherMatch new is after = absurd cc
no_entries_told old p (learned.Conflict n) new is after = absurd cc
no_entries_told old p learned.Gap new is after = absurd cc
no_entries_told old p (learned.Illegal n) new is after = absurd cc
no_entries_told old p learned.Memory new is after = absurd cc
no_entries_told old p (learned.Grew k) new is after = absurd cc

module _ (old : FollowerView) (id : ℕ) (rules : Rules) (start : ℕ) (list : List Entry) (new : FollowerView) (is : IsFollower new) where
  entries_told : (l : Learned) → Learns old (packet.Entries id rules start list) l
      → IsAfter old (packet.Entries id rules start list) l new → IsAllTold old (packet.Entries id rules start list) new
  entries_told learned.OtherMatch h after = same_told old (packet.Entries id rules start list) new after
  entries_told learned.Nothing h after = same_told old (packet.Entries id rules start list) new after
  entries_told (learned.Conflict n) h after = same_told old (packet.Entries id rules start list) new after
  entries_told (learned.Illegal n) h after = same_told old (packet.Entries id rules start list) new after
  entries_told learned.Memory h after = same_told old (packet.Entries id rules start list) new after
  entries_told learned.Gap h after = stored_told old id rules start list new h.0 h.1.1 is.few after
  entries_told (learned.Grew k) h after =
      subst (IsAllTold old (packet.Entries id rules start list)) (sym after.0)
      (grown_told old id rules start list k new.log.spare h.0 h.1.0.0.1 h.1.1.within)

not_entries : (old : FollowerView) (p : Packet) (l : Learned) (new : FollowerView)
    → (l ≢ learned.OtherMatch → l ≡ learned.Nothing)
    → IsAfter old p l new → IsAllTold old p new
not_entries old p learned.OtherMatch new is after = same_told old p new after
not_entries old p learned.Nothing new is after = same_told old p new after
not_entries old p (learned.Conflict n) new is after = same_told old p new after
not_entries old p learned.Gap new is after = no_entries_told old p learned.Gap new (is (λ h. absurd cc)) after
not_entries old p (learned.Illegal n) new is after = same_told old p new after
not_entries old p learned.Memory new is after = same_told old p new after
not_entries old p (learned.Grew k) new is after = no_entries_told old p (learned.Grew k) new (is (λ h. absurd cc)) after

-- what a packet teaches that has no entries
of_no_entries : (old : FollowerView) (p : Packet) (l : Learned) (nothing : (l : Learned) → TeachesWithin old p l
    → l ≡ learned.Nothing)
    → Learns old p l → l ≢ learned.OtherMatch → l ≡ learned.Nothing
of_no_entries old p learned.OtherMatch nothing h other = absurd (other refl)
of_no_entries old p learned.Nothing nothing h other = refl
of_no_entries old p (learned.Conflict n) nothing h other = nothing (learned.Conflict n) h.1
of_no_entries old p learned.Gap nothing h other = nothing learned.Gap h.1
of_no_entries old p (learned.Illegal n) nothing h other = nothing (learned.Illegal n) h.1
of_no_entries old p learned.Memory nothing h other = nothing learned.Memory h.1
of_no_entries old p (learned.Grew k) nothing h other = nothing (learned.Grew k) h.1

pub all_told : (old : FollowerView) (p : Packet) (l : Learned) (new : FollowerView) → IsFollower new → Learns old p l
    → IsAfter old p l new → IsAllTold old p new
all_told old (packet.Want id rules sender held) l new is h after =
    not_entries old (packet.Want id rules sender held) l new
    (of_no_entries old (packet.Want id rules sender held) l (λ l h. h) h) after
all_told old (packet.Claim id rules sender number action) l new is h after =
    not_entries old (packet.Claim id rules sender number action) l new
    (of_no_entries old (packet.Claim id rules sender number action) l (λ l h. h) h) after
all_told old (packet.Entries id rules start list) l new is h after = entries_told old id rules start list new is l h after
