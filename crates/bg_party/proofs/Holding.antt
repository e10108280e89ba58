-- Entries that continue a record are held afterwards.
use Rattle.std.proofs.Common.{◌≡◌, ◌⊎◌, inl, inr, ℕ, zero, suc, ◌+◌, ◌-◌, ◌<◌, ◌≤◌, Some, List, [], ◌∷◌, ◌++◌, length}
use Rattle.std.proofs.Common.{take, drop, slice_get, refl, sym, ◌∙◌, ap, subst, arith, append_assoc, length-append}
use Rattle.std.proofs.Math.Seq.{take-append-add}
use Rattle.std.proofs.lemmas.List.{take-append-drop, take-append-le, length-drop}
use Rattle.std.proofs.lemmas.Option.{slice_get_within}
use Rattle.bg_match.specs.Terms.{rules_of}
use Rattle.bg_match.specs.declared.limits.Rules.{Rules}
use Rattle.bg_match.specs.declared.entries.Entry.{Entry}
use Rattle.bg_match.specs.Match.{Log, IsLegalRecord, at_number}
use Rattle.bg_match.proofs.Legal.{legal_fronts}
use Rattle.bg_wire.specs.Packets.PacketText.{IsPacket}
use Rattle.bg_wire.specs.Runs.{IsRun}
use Rattle.bg_wire.specs.declared.packets.Packet.{Packet}
use Rattle.bg_wire.specs.declared.packets.Packet.TheVariants as packet
use Rattle.bg_party.specs.declared.outcomes.Learned.{Learned}
use Rattle.bg_party.specs.declared.outcomes.Learned.TheVariants as learned
use Rattle.bg_party.specs.Views.{FollowerView}
use Rattle.bg_party.specs.Learns.{Agrees, Learns, Teaches, GrowsBy, coming, new_entries}
use Rattle.bg_party.specs.Takes.{Continues, Keeps, IsAfter}
use Rattle.bg_party.specs.Window.{early_behind}

-- what entries of this match teach
pub learns_entries : (f : FollowerView) (id : ℕ) (rules : Rules) (start : ℕ) (list : List Entry) (l : Learned) → (id ≡ f.log.id) × (rules ≡ rules_of f.log.terms)
    → Teaches f start list l
    → Learns f (packet.Entries id rules start list) l
learns_entries f id rules start list learned.OtherMatch same h = absurd h
learns_entries f id rules start list learned.Nothing same h = (same, h)
learns_entries f id rules start list (learned.Conflict n) same h = (same, h)
learns_entries f id rules start list learned.Gap same h = (same, h)
learns_entries f id rules start list (learned.Illegal n) same h = (same, h)
learns_entries f id rules start list learned.Memory same h = (same, h)
learns_entries f id rules start list (learned.Grew k) same h = (same, h)

nat_order : (a b : ℕ) → (a ≤ b) ⊎ (b < a)
nat_order zero b = inl (omega arith)
nat_order (suc a) zero = inr (omega arith)
nat_order (suc a) (suc b) = elim (nat_order a b) [ inl p ↦ inl (omega arith) | inr p ↦ inr (omega arith) ]

get_left : (xs ys : List Entry) (i : ℕ) (e : Entry) → slice_get xs i ≡ Some e → slice_get (xs ++ ys) i ≡ Some e
get_left [] ys i e h = cc
get_left (x ∷ xs) ys zero e h = h
get_left (x ∷ xs) ys (suc i) e h = get_left xs ys i e h

number_left : (xs ys : List Entry) (n : ℕ) (e : Entry) → at_number xs n ≡ Some e → at_number (xs ++ ys) n ≡ Some e
number_left xs ys zero e h = h
number_left xs ys (suc i) e h = get_left xs ys i e h

-- behind the first list the second one is found
get_right : (xs ys : List Entry) (i j : ℕ) → i ≡ length xs + j → slice_get (xs ++ ys) i ≡ slice_get ys j
get_right [] ys i j h = let same : i ≡ j = omega arith in ap (slice_get ys) same
get_right (x ∷ xs) ys zero j h = absurd (omega arith)
get_right (x ∷ xs) ys (suc i) j h = get_right xs ys i j (omega arith)

number_right : (xs ys : List Entry) (n j : ℕ) → n ≡ length xs + 1 + j → at_number (xs ++ ys) n ≡ slice_get ys j
number_right xs ys zero j h = absurd (omega arith)
number_right xs ys (suc i) j h = get_right xs ys i j (omega arith)

get_drop : (h : ℕ) (xs : List Entry) (i j : ℕ) → i ≡ h + j → slice_get (drop h xs) j ≡ slice_get xs i
get_drop zero xs i j e = let same : i ≡ j = omega arith in ap (slice_get xs) (sym same)
get_drop (suc h) [] i j e = refl
get_drop (suc h) (x ∷ xs) zero j e = absurd (omega arith)
get_drop (suc h) (x ∷ xs) (suc i) j e = get_drop h xs i j (omega arith)

-- where the list agrees with what is held, and nothing of it is new, all of it is held
all_held : (entries : List Entry) (start : ℕ) (list : List Entry) → Agrees entries start list
    → start ≤ length entries + 1
    → new_entries entries start list ≡ [] → IsRun entries start list
all_held entries start list agrees joins none i e at =
    let within = slice_get_within list i e at in
    let size : length (new_entries entries start list) ≡ 0 = ap length none in
    agrees i e at (omega (arith, length-drop (length entries + 1 - start) list))

-- with its new entries all of it is held
grown_holds : (entries : List Entry) (start : ℕ) (list : List Entry) → 1 ≤ start → Agrees entries start list
    → start ≤ length entries + 1
    → IsRun (entries ++ new_entries entries start list) start list
grown_holds entries start list low agrees joins i e at = elim (nat_order (start + i) (length entries)) [
  | inl held ↦ number_left entries (new_entries entries start list) (start + i) e (agrees i e at held)
  | inr new ↦
      let j = start + i - (length entries + 1) in
      number_right entries (new_entries entries start list) (start + i) j (omega arith)
      ∙ get_drop (length entries + 1 - start) list i j (omega arith) ∙ at
]

keeps_none : (old : Log) (p : Packet) (l : Learned) (new : Log) → (Continues old.id old.terms old.entries p → ⊥)
    → Keeps old p l new
keeps_none old p learned.OtherMatch new h = λ k. absurd (h k)
keeps_none old p learned.Nothing new h = λ k. absurd (h k)
keeps_none old p (learned.Conflict n) new h = λ k. absurd (h k)
keeps_none old p learned.Gap new h = λ k. absurd (h k)
keeps_none old p (learned.Illegal n) new h = λ k. absurd (h k)
keeps_none old p learned.Memory new h = tt
keeps_none old p (learned.Grew k) new h = λ c. absurd (h c)

-- the coming entries begin with the new ones of the list, and these are among those that are
-- appended
pub grown_so_far : (f : FollowerView) (start : ℕ) (list : List Entry) (k : ℕ) → GrowsBy f start list k
    → (rest : List Entry)
    × (f.log.entries ++ take k (coming f start list) ≡
    (f.log.entries ++ new_entries f.log.entries start list) ++ rest)
grown_so_far f start list k h =
    let new = new_entries f.log.entries start list in
    let early = early_behind f.early (length new) in
    let size = length-append new early in
    elim (nat_order (length new) k) [
      | inl all ↦
          let same : k ≡ length new + (k - length new) = omega arith in (
            take (k - length new) early,
            ap (λ (n : ℕ). f.log.entries ++ take n (new ++ early)) same
                ∙ ap (λ (l : List Entry). f.log.entries ++ l) (take-append-add new early (k - length new))
                ∙ sym (append_assoc f.log.entries new (take (k - length new) early)),
          )
      | inr less ↦
          let front = take-append-le (k + 1) new early (omega arith) in
          absurd (h.1.no_more (omega arith)
          (subst (λ (l : List Entry). IsLegalRecord f.log.terms (f.log.entries ++ l)) (sym front)
          (legal_fronts f.log.terms (f.log.entries ++ take (k + 1) new) (drop (k + 1) new)
          (subst (IsLegalRecord f.log.terms)
          (ap (λ (l : List Entry). f.log.entries ++ l) (sym (take-append-drop (k + 1) new))
          ∙ sym (append_assoc f.log.entries (take (k + 1) new) (drop (k + 1) new))) h.0.2))))
    ]

run_left : (xs ys : List Entry) (start : ℕ) (list : List Entry) → IsRun xs start list → IsRun (xs ++ ys) start list
run_left xs ys start list h i e at = number_left xs ys (start + i) e (h i e at)

keeps_entries : (old : FollowerView) (id : ℕ) (rules : Rules) (start : ℕ) (list : List Entry) (l : Learned) (new : FollowerView) → 1 ≤ start
    → Learns old (packet.Entries id rules start list) l → IsAfter old (packet.Entries id rules start list) l new
    → Keeps old.log (packet.Entries id rules start list) l new.log
keeps_entries old id rules start list learned.OtherMatch new low h after = λ k. absurd (h k.0)
keeps_entries old id rules start list learned.Nothing new low h after =
    λ k. subst (λ (f : FollowerView). IsRun f.log.entries start list) (sym after)
    (all_held old.log.entries start list k.1.0 k.1.1 h.1.1)
keeps_entries old id rules start list (learned.Conflict n) new low h after =
    λ k. let c = h.1 in
    absurd (c.5
    (subst (λ (m : ℕ). at_number old.log.entries m ≡ Some c.1) (sym c.2)
    (k.1.0 c.0 c.1 c.4 (omega (arith, c.2, c.3)))))
keeps_entries old id rules start list learned.Gap new low h after = λ k. absurd (omega (arith, h.1.1, k.1.1))
keeps_entries old id rules start list (learned.Illegal n) new low h after =
    λ k. let all = old.log.entries ++ new_entries old.log.entries start list in
    absurd (h.1.1.illegal
    (legal_fronts old.log.terms (take n all) (drop n all)
    (subst (IsLegalRecord old.log.terms) (sym (take-append-drop n all)) k.2)))
keeps_entries old id rules start list learned.Memory new low h after = tt
keeps_entries old id rules start list (learned.Grew n) new low h after =
    λ k. let more = grown_so_far old start list n h.1 in
    subst (λ (f : FollowerView). IsRun f.log.entries start list) (sym after.0)
    (subst (λ (l : List Entry). IsRun l start list) (sym more.1)
    (run_left (old.log.entries ++ new_entries old.log.entries start list) more.0 start list
    (grown_holds old.log.entries start list low k.1.0 k.1.1)))

pub keeps : (old : FollowerView) (p : Packet) (l : Learned) (new : FollowerView) → IsPacket p → Learns old p l
    → IsAfter old p l new → Keeps old.log p l new.log
keeps old (packet.Want id rules sender held) l new is h after =
    keeps_none old.log (packet.Want id rules sender held) l new.log (λ k. k)
keeps old (packet.Claim id rules sender number action) l new is h after =
    keeps_none old.log (packet.Claim id rules sender number action) l new.log (λ k. k)
keeps old (packet.Entries id rules start list) l new is h after = keeps_entries old id rules start list l new is.first_entry h after
