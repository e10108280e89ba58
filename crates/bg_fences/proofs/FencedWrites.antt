-- Which writes a keeper in memory takes, and that they keep the fence.
use Rattle.std.specs.Prelude.{◌≡◌, ℕ, ◌+◌, ◌<◌, ◌≤◌, Option, Some, None, List, Result, Ok, Err, true, false, nat_lt, max}
use Rattle.std.proofs.Common.{refl, sym, ◌∙◌, ap, inl, inr, arith}
use Rattle.std.proofs.lemmas.Bool.{cases_lt}
use Rattle.std.proofs.lemmas.Bool.Decides.{nat_tests}
use Rattle.bg_wire.specs.Saved.Restoring.{LoadsAs, newer}
use Rattle.bg_wire.specs.Saved.SavedText.{SavedParts}
use Rattle.bg_wire.specs.Saved.Saves.{slot_of}
use Rattle.bg_wire.specs.Saved.SlotLaws.{Slots, bytes_in, save_in}
use Rattle.bg_wire.specs.declared.saves.slots.Slot.{Slot}
use Rattle.bg_wire.specs.declared.saves.slots.Slot.TheVariants.{Zero, One}
use Rattle.bg_wire.proofs.OfSaves.OneText.{loads_once, one_saved, restores_once}
use Rattle.bg_wire.proofs.OfSaves.SavedLaws.{written_is_saved}
use Rattle.bg_protocol.specs.Devices.Honesty.{CountsFailed, HasCause, LeavesTorn, Writes}
use Rattle.bg_protocol.specs.declared.devices.DeviceFault.{DeviceFault}
use Rattle.bg_protocol.specs.declared.devices.DeviceFault.TheVariants.{Failed, Memory}
use Rattle.bg_protocol.specs.declared.nodes.saves.Save.{Save}
use Rattle.bg_fences.specs.FencedWrites.{IsBegunSave, IsNextText, IsWriteFenced, WritesNext}
use Rattle.bg_fences.specs.ToldNumbers.{TellsNewest, TellsNumber}

-- ---- the newest of two

newer_save : (a b : Option SavedParts) → max (save_in a) (save_in b) ≡ save_in (newer a b)
newer_save None None = omega arith
newer_save None (Some q) = omega arith
newer_save (Some p) None = omega arith
newer_save (Some p) (Some q) = elim (cases_lt p.save q.save) [
  | inl lt ↦ rw (is_less p.save q.save lt) (omega (arith, lt))
  | inr ge ↦ rw (not_less p.save q.save ge) (omega (arith, ge))
]
  where
    is_less : (m n : ℕ) → m < n → nat_lt m n ≡ true
    is_less m n lt = grind (arith, nat_tests)

    not_less : (m n : ℕ) → n ≤ m → nat_lt m n ≡ false
    not_less m n ge = grind (arith, nat_tests)

pub newest_of : (slots : Slots) (a b : ℕ) → TellsNumber slots.zero (Ok a) → TellsNumber slots.one (Ok b) → TellsNewest slots (Ok (max a b))
newest_of slots a b h k = (
  newer h.0 k.0,
  record { first = h.0; second = k.0; first_loads = h.1; second_loads = k.1; is_newer = refl },
  rw h.2 (rw k.2 (newer_save h.0 k.0)),
)

-- ---- what is refused is no next text

pub next_told : (slots : Slots) (slot : Slot) (bytes : List ℕ) (number newest : ℕ) → TellsNumber bytes (Ok number) → TellsNewest slots (Ok newest)
    → IsNextText slots slot bytes → (number ≡ newest + 1) × (slot ≡ slot_of number)
next_told slots slot bytes number newest told of h =
    let here : number ≡ h.next.save = told.2 ∙ ap save_in (loads_once bytes told.0 (Some h.next) told.1 h.is_text) in
    let there : newest ≡ save_in h.found = of.2 ∙ ap save_in (restores_once slots.zero slots.one of.0 h.found of.1 h.restore) in
    (omega (arith, here, there, h.numbered), h.in_turn ∙ ap slot_of (sym here))

-- ---- what is written is one

pub is_next_text : (slots : Slots) (slot : Slot) (bytes : List ℕ) (number newest : ℕ) → TellsNumber bytes (Ok number) → TellsNewest slots (Ok newest)
    → number ≡ newest + 1 → slot ≡ slot_of number → IsNextText slots slot bytes
is_next_text slots slot bytes number newest told of next turn = some_text told.0 told.1 told.2
  where
    some_text : (found : Option SavedParts) → LoadsAs bytes found → number ≡ save_in found → IsNextText slots slot bytes
    some_text None loads e = absurd (clash (e ∙ refl) next)
      where
        clash : number ≡ 0 → number ≡ newest + 1 → ⊥
        clash a b = omega (arith, a, b)
    some_text (Some p) loads e = record {
      found = of.0;
      restore = of.1;
      next = p;
      is_text = loads;
      numbered = omega (arith, e, next, of.2);
      in_turn = turn ∙ ap slot_of e;
    }

-- ---- such a keeper is honest

left_alone : (old : Slots) (slot : Slot) (bytes : List ℕ) (new : Slots) → new ≡ old → LeavesTorn old slot bytes new
left_alone old Zero bytes new same = record { left = bytes_in old Zero; torn = inl refl; after = same }
left_alone old One bytes new same = record { left = bytes_in old One; torn = inl refl; after = same }

pub writes_honestly : (old : Slots) (slot : Slot) (bytes : List ℕ) (new : Slots) (result : Result (Unit {0}) DeviceFault) → WritesNext old slot bytes new result → Writes old slot bytes new result
writes_honestly old slot bytes new (Ok done) h = h.1
writes_honestly old slot bytes new (Err Failed) h = left_alone old slot bytes new h.1
writes_honestly old slot bytes new (Err Memory) h = left_alone old slot bytes new h

-- what is counted of an answer has a cause
pub counted : (before after : ℕ) (result : Result (Unit {0}) DeviceFault) → CountsFailed before after result → HasCause before after result
counted before after (Ok done) h = record { later = omega (arith, h); failed = λ k. cc }
counted before after (Err Failed) h = record { later = omega (arith, h); failed = λ k. omega (arith, h) }
counted before after (Err Memory) h = record { later = omega (arith, h); failed = λ k. cc }

-- ---- and keeps the fence

pub keeps_fence : (save : Save) (old new : Slots) (result : Result (Unit {0}) DeviceFault) → IsBegunSave save → WritesNext old save.slot save.text.items new result → IsWriteFenced old save.number result new
keeps_fence save old new (Ok done) begun h =
    let t = h.0 in
    let one : begun.0 ≡ t.next = one_saved begun.0 t.next save.text.items (written_is_saved begun.0 save.text.items begun.1.2) t.is_text in
    inl (t.found, t.restore, begun.1.1 ∙ ap (λ (p : SavedParts). p.save) one ∙ t.numbered)
keeps_fence save old new (Err Failed) begun h = inr h.1
keeps_fence save old new (Err Memory) begun h = inr h
