-- Bytes are a saved text or they are none: which of the two, can be computed. So of two slots the
-- one with the greater number is enough.
use Rattle.std.proofs.Common.{◌≡◌, ℕ, ◌<◌, ◌≤◌, true, false, List, Result, Ok, Err, Option, Some, None, refl, sym, ◌∙◌, ap, arith, inl, inr}
use Rattle.std.specs.Prelude.{◌⊎◌, nat_lt}
use Rattle.std.proofs.lemmas.Bool.Decides.{nat_tests}
use Rattle.bg_match.specs.Match.{IsLegalRecord}
use Rattle.bg_wire.specs.Saved.SavedText.{SavedParts, IsSavedText, HasEntries}
use Rattle.bg_match.specs.declared.entries.Entry.{Entry}
use Rattle.bg_wire.specs.Saved.SavedReading.{layout_of, parts_of_front, fields_of}
use Rattle.bg_wire.specs.Saved.SlotReading.{LoadsFirst, ReadsFirst, ReadsSlots}
use Rattle.bg_wire.specs.Saved.Restoring.{LoadsAs, SlotsRestore, parts_in}
use Rattle.bg_wire.specs.declared.faults.LoadFault.{LoadFault}
use Rattle.bg_wire.specs.declared.faults.RestoreRefusal.{RestoreRefusal}
use Rattle.bg_wire.specs.declared.faults.RestoreRefusal.TheVariants.{Damaged, WrongMatch, Memory}
use Rattle.bg_wire.specs.declared.saves.Saved.{Saved}
use Rattle.bg_wire.specs.declared.saves.layouts.Front.{Front}
use Rattle.bg_wire.proofs.Laws.{IsBytes}
use Rattle.bg_turns.proofs.DecidedTurns.{Decided}
use Rattle.bg_match.proofs.DecidedRecords.{decided_record}
use Rattle.bg_wire.proofs.OfSaves.Loading.{laid, is_layout}

loads : (bytes : List ℕ) → IsBytes bytes → (found : Option SavedParts) × LoadsAs bytes found
loads bytes fits = by_layout (layout_of bytes) refl
  where
    none : (r : Result SavedParts LoadFault) → layout_of bytes ≡ r → ((p : SavedParts) → r ≡ Ok p → IsLegalRecord p.terms p.entries → ⊥) → LoadsAs bytes None
    none r is wrong p text = wrong p (sym is ∙ laid bytes p text.layout) text.legal

    by_record : (p : SavedParts) → layout_of bytes ≡ Ok p → Decided (IsLegalRecord p.terms p.entries) → (found : Option SavedParts) × LoadsAs bytes found
    by_record p is (inl legal) = (Some p, record { layout = is_layout bytes p fits is; legal = legal })
    by_record p is (inr not) = (None, none (Ok p) is (λ q same legal. let one : p ≡ q = cc in not (rw (sym one) at legal)))

    by_layout : (r : Result SavedParts LoadFault) → layout_of bytes ≡ r → (found : Option SavedParts) × LoadsAs bytes found
    by_layout (Ok p) is = by_record p is (decided_record p.terms p.entries)
    by_layout (Err why) is = (None, none (Err why) is (λ p same legal. absurd cc))

-- the front tells the number of the save
told : (f : Front) (entries : Result (List Entry) LoadFault) (p : SavedParts) → fields_of f entries ≡ Ok p → f.save ≡ p.save
told f (Ok entries) p e = let same : parts_of_front f entries ≡ p = cc in ap (λ (q : SavedParts). q.save) same
told f (Err why) p e = absurd cc

pub told_by : (bytes : List ℕ) (f : Front) (entries : Result (List Entry) LoadFault) (p : SavedParts) → layout_of bytes ≡ fields_of f entries → IsSavedText p bytes → f.save ≡ p.save
told_by bytes f entries p reads text = told f entries p (sym reads ∙ laid bytes p text.layout)

pub not_told : (bytes : List ℕ) (why : LoadFault) (p : SavedParts) → layout_of bytes ≡ Err why → IsSavedText p bytes → ⊥
not_told bytes why p fails text = let is = laid bytes p text.layout in cc

module _ (slot0 slot1 : List ℕ) (fits0 : IsBytes slot0) (fits1 : IsBytes slot1) (save0 save1 : ℕ) (tells0 : (p : SavedParts) → IsSavedText p slot0 → save0 ≡ p.save) (tells1 : (p : SavedParts) → IsSavedText p slot1 → save1 ≡ p.save) where
  -- slot 1 tells the greater number: where it loads, it is the newer one
  second_first : (found : Option SavedParts) → save0 < save1 → LoadsFirst slot1 slot0 found → SlotsRestore slot0 slot1 found
  second_first None less (none1, none0) = record { first = None; second = None; first_loads = none0; second_loads = none1; is_newer = refl }
  second_first (Some p) less (inr (none1, old)) = record { first = Some p; second = None; first_loads = old; second_loads = none1; is_newer = refl }
  second_first (Some p) less (inl text) = beside (loads slot0 fits0)
    where
      beside : (first : Option SavedParts) × LoadsAs slot0 first → SlotsRestore slot0 slot1 (Some p)
      beside (None, none0) = record { first = None; second = Some p; first_loads = none0; second_loads = text; is_newer = refl }
      beside (Some q, old) =
          let before = tells0 q old in
          let after = tells1 p text in
          let test : nat_lt q.save p.save ≡ true = grind (arith, nat_tests, less, before, after) in
          record { first = Some q; second = Some p; first_loads = old; second_loads = text; is_newer = rw test refl }

  -- it does not: where slot 0 loads, it is the newer one, or both are equal
  first_first : (found : Option SavedParts) → save1 ≤ save0 → LoadsFirst slot0 slot1 found → SlotsRestore slot0 slot1 found
  first_first None more (none0, none1) = record { first = None; second = None; first_loads = none0; second_loads = none1; is_newer = refl }
  first_first (Some p) more (inr (none0, other)) = record { first = None; second = Some p; first_loads = none0; second_loads = other; is_newer = refl }
  first_first (Some p) more (inl text) = beside (loads slot1 fits1)
    where
      beside : (second : Option SavedParts) × LoadsAs slot1 second → SlotsRestore slot0 slot1 (Some p)
      beside (None, none1) = record { first = Some p; second = None; first_loads = text; second_loads = none1; is_newer = refl }
      beside (Some q, other) =
          let after = tells0 p text in
          let before = tells1 q other in
          let test : nat_lt p.save q.save ≡ false = grind (arith, nat_tests, more, before, after) in
          record { first = Some p; second = Some q; first_loads = text; second_loads = other; is_newer = rw test refl }

  swapped : HasEntries slot1 ⊎ HasEntries slot0 → HasEntries slot0 ⊎ HasEntries slot1
  swapped (inl h) = inr h
  swapped (inr h) = inl h

  -- the same, of what is answered
  pub reads_second : (result : Result (Option Saved) RestoreRefusal) → save0 < save1 → ReadsFirst slot1 slot0 result → ReadsSlots slot0 slot1 result
  reads_second (Ok found) less h = second_first (parts_in found) less h
  reads_second (Err Damaged) less h = absurd h
  reads_second (Err WrongMatch) less h = absurd h
  reads_second (Err Memory) less h = swapped h

  pub reads_first : (result : Result (Option Saved) RestoreRefusal) → save1 ≤ save0 → ReadsFirst slot0 slot1 result → ReadsSlots slot0 slot1 result
  reads_first (Ok found) more h = first_first (parts_in found) more h
  reads_first (Err Damaged) more h = absurd h
  reads_first (Err WrongMatch) more h = absurd h
  reads_first (Err Memory) more h = h
