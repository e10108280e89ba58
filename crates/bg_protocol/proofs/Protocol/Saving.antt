-- What the slots of a party have: the text of the save that they restore, in its slot, and beside
-- it an older text or none.
use Rattle.std.proofs.Common.{◌≡◌, ◌⊎◌, inl, inr, ℕ, suc, ◌+◌, Option, Some, None, List, [], ◌∷◌, ◌++◌, refl, sym, ◌∙◌, ap, subst, arith}
use Rattle.std.proofs.lemmas.List.{append-nil}
use Rattle.bg_match.specs.Terms.{Terms}
use Rattle.bg_wire.specs.Saved.Restoring.{IsSavedBy, SlotsRestore}
use Rattle.bg_wire.specs.Saved.SavedText.{SavedParts, IsWrittenText}
use Rattle.bg_wire.specs.Saved.Saves.{slot_of}
use Rattle.bg_wire.specs.Saved.SlotLaws.{Slots, bytes_in, with_slot, AreOfMatch, AreWritten, IsSaveAfter}
use Rattle.bg_wire.specs.declared.saves.slots.Slot.{Slot}
use Rattle.bg_wire.specs.declared.saves.slots.Slot.TheVariants.{Zero, One}
use Rattle.bg_wire.proofs.OfSaves.OneText.{empty_loads, restores_once}
use Rattle.bg_wire.proofs.OfSaves.SlotTurns.{written_restores, torn_restores}
use Rattle.bg_protocol.specs.Promises.Refusals.{AreWhole}
use Rattle.bg_protocol.specs.Protocol.Slots.{empty_slots, MayBeLeft, SaveWritten, SaveTorn, next_number}

-- the slots restore this, by the text in the slot of its save, and it is of this party and match
pub record SlotsOk (id : ℕ) (terms : Terms) (party : ℕ) (slots : Slots) (restorable : Option SavedParts) : Type 0 where
  pub written : AreWritten slots restorable
  pub of_match : AreOfMatch party id terms slots restorable

-- the number of the save after it
pub number_after : (n : ℕ) → n + 1 ≡ suc n
number_after n = omega arith

put_back : (slots : Slots) (a : Slot) → with_slot slots a (bytes_in slots a) ≡ slots
put_back slots Zero = refl
put_back slots One = refl

module _ (id : ℕ) (terms : Terms) (party : ℕ) (slots : Slots) (restorable : Option SavedParts) where
  -- the first slot stays empty until something is restored
  of_match_stays : (r : Option SavedParts) (k : ℕ) (bytes : List ℕ) → AreOfMatch party id terms slots r → k ≡ next_number r
      → AreOfMatch party id terms (with_slot slots (slot_of k) bytes) r
  of_match_stays None k bytes empty next =
      subst (λ (n : ℕ). AreOfMatch party id terms (with_slot slots (slot_of n) bytes) None) (sym next) empty
  of_match_stays (Some p) k bytes of next = of

  follows : (p : SavedParts) (text : List ℕ) → SlotsOk id terms party slots restorable → p.save ≡ next_number restorable
      → IsWrittenText p text → IsSaveAfter slots restorable p text
  follows p text ok next spelled = record { written = ok.written; next = omega arith; spelled = spelled }

  -- the text of the next save was written
  pub whole : (p : SavedParts) (text : List ℕ) → SlotsOk id terms party slots restorable → IsSavedBy party id terms p
      → p.save ≡ next_number restorable → IsWrittenText p text
      → SlotsOk id terms party (with_slot slots (slot_of p.save) text) (Some p)
  whole p text ok of next spelled =
      record { written = written_restores slots restorable p text (follows p text ok next spelled); of_match = of }

  -- what the slots restore is one thing
  settled : (new : Slots) (after good : Option SavedParts) → SlotsRestore new.zero new.one after → SlotsOk id terms party new good
      → SlotsOk id terms party new after × (after ≡ good)
  settled new after good restore ok =
      let same : after ≡ good = restores_once new.zero new.one after good restore ok.written.restore in
      (subst (λ (x : Option SavedParts). SlotsOk id terms party new x) (sym same) ok, same)

  -- a save that was written is restored
  pub after_whole : (p : SavedParts) (new : Slots) (after : Option SavedParts) → SlotsOk id terms party slots restorable
      → IsSavedBy party id terms p → p.save ≡ next_number restorable → SaveWritten p slots new after
      → SlotsOk id terms party new after × (after ≡ Some p)
  after_whole p new after ok of next w =
      settled new after (Some p) w.after.restore
      (subst (λ (x : Slots). SlotsOk id terms party x (Some p)) (sym w.after.slots) (whole p w.text ok of next w.is_text))

  pub torn_to : (p : SavedParts) (text left : List ℕ) → SlotsOk id terms party slots restorable → IsSavedBy party id terms p
      → p.save ≡ next_number restorable → IsWrittenText p text → MayBeLeft (bytes_in slots (slot_of p.save)) text left
      → (after : Option SavedParts) × SlotsOk id terms party (with_slot slots (slot_of p.save) left) after
      × ((after ≡ restorable) ⊎ (after ≡ Some p))
  torn_to p text left ok of next spelled (inl e) =
      let same : slots ≡ with_slot slots (slot_of p.save) left =
      sym (put_back slots (slot_of p.save)) ∙ ap (with_slot slots (slot_of p.save)) (sym e) in
      (restorable, subst (λ (x : Slots). SlotsOk id terms party x restorable) same ok, inl refl)
  torn_to p text left ok of next spelled (inr front) = at_front front.0 front.1
    where
      at_front : (rest : List ℕ) → left ++ rest ≡ text
          → (after : Option SavedParts) × SlotsOk id terms party (with_slot slots (slot_of p.save) left) after
          × ((after ≡ restorable) ⊎ (after ≡ Some p))
      at_front [] e = (Some p, whole p left ok of next (subst (IsWrittenText p) (sym e ∙ append-nil left) spelled), inr refl)
      at_front (b ∷ rest) e =
          let cut = subst (IsWrittenText p) (sym e) spelled in (
            restorable,
            record {
              written = torn_restores slots restorable p left (b ∷ rest) (follows p (left ++ b ∷ rest) ok next cut) (λ n. cc);
              of_match = of_match_stays restorable p.save left ok.of_match next;
            },
            inl refl,
          )

  -- after a save that was not written the slots restore what they did, or it
  pub after_torn : (p : SavedParts) (new : Slots) (after : Option SavedParts) → SlotsOk id terms party slots restorable
      → IsSavedBy party id terms p → p.save ≡ next_number restorable → SaveTorn p slots new after
      → SlotsOk id terms party new after × ((after ≡ restorable) ⊎ (after ≡ Some p))
  after_torn p new after ok of next w =
      let left = torn_to p w.text w.left ok of next w.is_text w.torn in
      let good : SlotsOk id terms party new left.0 = subst (λ (x : Slots). SlotsOk id terms party x left.0) (sym w.after.slots) left.1 in
      let end = settled new after left.0 w.after.restore good in
      (end.0, subst (λ (x : Option SavedParts). (x ≡ restorable) ⊎ (x ≡ Some p)) (sym end.1) left.2)

pub empty_ok : (id : ℕ) (terms : Terms) (party : ℕ) → SlotsOk id terms party empty_slots None
empty_ok id terms party = record {
  written = record {
    restore = record { first = None; second = None; first_loads = empty_loads; second_loads = empty_loads; is_newer = refl };
    in_its_slot = λ p some. absurd (cc some);
  };
  of_match = refl;
}

pub whole_slots : (id : ℕ) (terms : Terms) (party : ℕ) (slots : Slots) (restorable : Option SavedParts)
    → SlotsOk id terms party slots restorable → AreWhole id terms party slots restorable
whole_slots id terms party slots restorable ok = record { restore = ok.written.restore; of_match = ok.of_match }
