-- Saves go to the two slots by turns, and what is restored after each.
use Rattle.std.proofs.Common.{◌++◌, ◌≡◌, ◌≢◌, ℕ, ◌+◌, ◌<◌, ◌%◌, List, Option, Some, None, Ok, Err, refl, sym, ◌∙◌, ap, subst, arith, inl, inr}
use Rattle.std.specs.Prelude.{◌⊎◌, nat_lt, Bool, true, false, cond}
use Rattle.std.proofs.lemmas.Bool.{cases_lt}
use Rattle.std.proofs.lemmas.Bool.Decides.{nat_tests}
use Rattle.std.proofs.lemmas.Option.{same_Some}
use Rattle.bg_wire.specs.Saved.SavedText.{SavedParts, IsSavedText, parts_of}
use Rattle.bg_wire.specs.Saved.Saves.{slot_of}
use Rattle.bg_wire.specs.Saved.Restoring.{LoadsAs, newer, SlotsRestore, IsSavedBy}
use Rattle.bg_wire.specs.Saved.SlotLaws.{Slots, bytes_in, with_slot, slot_number, save_in, AreWritten, GoesByTurns, NextGoesToTheOther, WrittenIsRestored, TornIsNotRestored, GivesWhatSlotsRestore}
use Rattle.bg_wire.specs.declared.saves.slots.Slot.{Slot}
use Rattle.bg_wire.specs.declared.saves.slots.Slot.TheVariants.{Zero, One}
use Rattle.bg_wire.specs.declared.faults.RestoreRefusal.TheVariants as refusal
use Rattle.bg_wire.proofs.OfSaves.SavedLaws.{written_is_saved}
use Rattle.bg_wire.proofs.OfSaves.OneText.{front_loads, restores_once}

-- ---- whose turn it is

even_or_odd : (k : ℕ) → (k % 2 ≡ 0) ⊎ (k % 2 ≡ 1)
even_or_odd k = elim (cases_lt (k % 2) 1) [ inl lt ↦ inl (omega (arith, lt)) | inr ge ↦ inr (omega (arith, ge)) ]

slot_of_even : (k : ℕ) → k % 2 ≡ 0 → slot_of k ≡ Zero
slot_of_even k e = rw e refl

slot_of_odd : (k : ℕ) → k % 2 ≡ 1 → slot_of k ≡ One
slot_of_odd k e = rw e refl

pub goes_by_turns : GoesByTurns
goes_by_turns k = elim (even_or_odd k) [
  | inl e ↦ ap slot_number (slot_of_even k e) ∙ sym e
  | inr e ↦ ap slot_number (slot_of_odd k e) ∙ sym e
]

pub next_goes_to_the_other : NextGoesToTheOther
next_goes_to_the_other k same =
    let here = goes_by_turns k in
    let next = goes_by_turns (k + 1) in
    let numbers = ap slot_number same in
    omega (arith, here, next, numbers)

-- ---- the other slot

other : Slot → Slot
other Zero = One
other One = Zero

other_twice : (s : Slot) → other (other s) ≡ s
unfolding other
other_twice Zero = refl
other_twice One = refl

other_differs : (s : Slot) → s ≢ other s
unfolding other
other_differs Zero e = absurd cc
other_differs One e = absurd cc

next_slot : (k : ℕ) → slot_of (k + 1) ≡ other (slot_of k)
unfolding other
next_slot k = elim (even_or_odd k) [
  | inl e ↦ slot_of_odd (k + 1) (omega (arith, e)) ∙ ap other (sym (slot_of_even k e))
  | inr e ↦ slot_of_even (k + 1) (omega (arith, e)) ∙ ap other (sym (slot_of_odd k e))
]

written_there : (slots : Slots) (s : Slot) (bytes : List ℕ) → bytes_in (with_slot slots s bytes) s ≡ bytes
written_there slots Zero bytes = refl
written_there slots One bytes = refl

kept_elsewhere : (slots : Slots) (s t : Slot) (bytes : List ℕ) → s ≢ t → bytes_in (with_slot slots s bytes) t ≡ bytes_in slots t
kept_elsewhere slots Zero Zero bytes differ = absurd (differ refl)
kept_elsewhere slots Zero One bytes differ = refl
kept_elsewhere slots One Zero bytes differ = refl
kept_elsewhere slots One One bytes differ = absurd (differ refl)

-- what the slots restore, by what one and the other load as
restores_of : (slots : Slots) (s : Slot) (here there restored : Option SavedParts) → LoadsAs (bytes_in slots s) here → LoadsAs (bytes_in slots (other s)) there
    → restored ≡ newer here there → restored ≡ newer there here → SlotsRestore slots.zero slots.one restored
unfolding other
restores_of slots Zero here there restored h k e f =
    record { first = here; second = there; first_loads = h; second_loads = k; is_newer = e }
restores_of slots One here there restored h k e f =
    record { first = there; second = here; first_loads = k; second_loads = h; is_newer = f }

-- ---- before the write: the other slot loads as what the slots restore

both_nothing : (a b : Option SavedParts) → None ≡ newer a b → (a ≡ None) × (b ≡ None)
both_nothing None b e = (refl, sym e)
both_nothing (Some p) None e = absurd cc
both_nothing (Some p) (Some q) e = one_of (nat_lt p.save q.save) e
  where
    one_of : (first : Bool) → None ≡ cond first (Some q) (Some p) → (Some p ≡ None) × (Some q ≡ None)
    one_of true e = absurd cc
    one_of false e = absurd cc

nothing_there : (slots : Slots) (s : Slot) → SlotsRestore slots.zero slots.one None → LoadsAs (bytes_in slots s) None
nothing_there slots Zero h = subst (LoadsAs slots.zero) (both_nothing h.first h.second h.is_newer).0 h.first_loads
nothing_there slots One h = subst (LoadsAs slots.one) (both_nothing h.first h.second h.is_newer).1 h.second_loads

old_there : (slots : Slots) (old : Option SavedParts) (k : ℕ) → AreWritten slots old → k ≡ save_in old + 1 → LoadsAs (bytes_in slots (other (slot_of k))) old
old_there slots None k h e = nothing_there slots (other (slot_of k)) h.restore
old_there slots (Some q) k h e =
    let turn : other (slot_of k) ≡ slot_of q.save = ap (λ (n : ℕ). other (slot_of n)) e ∙ ap other (next_slot q.save) ∙ other_twice (slot_of q.save) in
    subst (λ (s : Slot). IsSavedText q (bytes_in slots s)) (sym turn) (h.in_its_slot q refl)

-- after it as well, as the write was to its own slot
old_stays : (slots : Slots) (old : Option SavedParts) (k : ℕ) (bytes : List ℕ) → AreWritten slots old → k ≡ save_in old + 1
    → LoadsAs (bytes_in (with_slot slots (slot_of k) bytes) (other (slot_of k))) old
old_stays slots old k bytes h e =
    subst (λ (b : List ℕ). LoadsAs b old) (sym (kept_elsewhere slots (slot_of k) (other (slot_of k)) bytes (other_differs (slot_of k)))) (old_there slots old k h e)

-- ---- after it

not_less : (m n : ℕ) → n < m → nat_lt m n ≡ false
not_less m n lt = grind (arith, nat_tests)

is_less : (m n : ℕ) → m < n → nat_lt m n ≡ true
is_less m n lt = grind (arith, nat_tests)

newer_before : (p : SavedParts) (old : Option SavedParts) → save_in old < p.save → Some p ≡ newer (Some p) old
newer_before p None lt = refl
newer_before p (Some q) lt = rw (not_less p.save q.save lt) refl

newer_after : (p : SavedParts) (old : Option SavedParts) → save_in old < p.save → Some p ≡ newer old (Some p)
newer_after p None lt = refl
newer_after p (Some q) lt = rw (is_less q.save p.save lt) refl

pub written_restores : WrittenIsRestored
written_restores slots old p text h =
    let here = slot_of p.save in
    let lt : save_in old < p.save = omega (arith, h.next) in
    let now = sym (written_there slots here text) in
    record {
      restore = restores_of (with_slot slots here text) here (Some p) old (Some p) (subst (IsSavedText p) now (written_is_saved p text h.spelled))
          (old_stays slots old p.save text h.written h.next) (newer_before p old lt) (newer_after p old lt);
      in_its_slot = λ q e.
          let same : p ≡ q = same_Some p q e in
          subst (λ (x : SavedParts). IsSavedText x (bytes_in (with_slot slots here text) (slot_of x.save))) same (subst (IsSavedText p) now (written_is_saved p text h.spelled));
    }

last_of_none : (old : Option SavedParts) → old ≡ newer old None
last_of_none None = refl
last_of_none (Some q) = refl

pub torn_restores : TornIsNotRestored
torn_restores slots old p front rest h more =
    let here = slot_of p.save in
    let new = with_slot slots here front in
    let none = subst (λ (b : List ℕ). LoadsAs b None) (sym (written_there slots here front)) (front_loads p front rest (written_is_saved p (front ++ rest) h.spelled) more) in
    record {
      restore = restores_of new here None old old none (old_stays slots old p.save front h.written h.next) refl (last_of_none old);
      in_its_slot = λ q e.
          let next : p.save ≡ q.save + 1 = h.next ∙ ap (λ (o : Option SavedParts). save_in o + 1) e in
          let differ : here ≢ slot_of q.save = λ same. next_goes_to_the_other q.save (ap slot_of (sym next) ∙ same) in
          subst (IsSavedText q) (sym (kept_elsewhere slots here (slot_of q.save) front differ)) (h.written.in_its_slot q e);
    }

-- ---- what restoring gives back

pub gives_back : GivesWhatSlotsRestore
gives_back slots restored party id terms (Ok None) h of_match r = restores_once slots.zero slots.one None restored r.0 h
gives_back slots restored party id terms (Ok (Some saved)) h of_match r = restores_once slots.zero slots.one (Some (parts_of saved)) restored r.0 h
gives_back slots None party id terms (Err refusal.Damaged) h of_match r = r.1 of_match
gives_back slots (Some p) party id terms (Err refusal.Damaged) h of_match r =
    let e = restores_once slots.zero slots.one None (Some p) r.0 h in absurd (cc e)
gives_back slots None party id terms (Err refusal.WrongMatch) h of_match r =
    let e = restores_once slots.zero slots.one (Some r.0) None r.1 h in absurd (cc e)
gives_back slots (Some p) party id terms (Err refusal.WrongMatch) h of_match r =
    let e = restores_once slots.zero slots.one (Some p) (Some r.0) h r.1 in
    r.2 (subst (IsSavedBy party id terms) (same_Some p r.0 e) of_match)
gives_back slots restored party id terms (Err refusal.Memory) h of_match r = tt
