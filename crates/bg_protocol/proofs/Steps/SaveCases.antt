-- What a save over an honest keeper comes to, and what the slots restore then.
use Rattle.std.specs.Prelude.{◌≡◌, ℕ, List, Option, Some, None, Result, Ok, Err}
use Rattle.std.specs.Global.{Vec}
use Rattle.std.proofs.Common.{sym, ◌∙◌, ap, subst}
use Rattle.bg_match.specs.Terms.{Terms}
use Rattle.bg_wire.specs.declared.faults.SaveRefusal.{SaveRefusal}
use Rattle.bg_wire.specs.declared.faults.SaveRefusal.TheVariants.{SavesSpent, Memory}
use Rattle.bg_wire.specs.declared.saves.slots.Slot.{Slot}
use Rattle.bg_wire.specs.Saved.SlotLaws.{Slots, with_slot}
use Rattle.bg_wire.specs.Saved.Restoring.{IsSavedBy}
use Rattle.bg_wire.specs.Saved.Saves.{IsNextSave, slot_of}
use Rattle.bg_wire.specs.Saved.SavedText.{IsWrittenText, SavedParts}
use Rattle.bg_protocol.specs.declared.devices.DeviceFault.{DeviceFault}
use Rattle.bg_protocol.specs.declared.events.Outcome.{Outcome}
use Rattle.bg_protocol.specs.declared.events.Outcome.TheVariants as outcomes
use Rattle.bg_protocol.specs.Devices.Honesty.{LeavesTorn, Writes}
use Rattle.bg_protocol.specs.Worlds.Views.{KeeperView}
use Rattle.bg_protocol.specs.Devices.KeeperCalls.{SaveCallsAt, SaveGoesOn, SaveTold}
use Rattle.bg_protocol.specs.Protocol.Slots.{SaveTorn, SaveWritten, next_number}
use Rattle.bg_protocol.proofs.Protocol.Saving.{SlotsOk, whole, torn_to}

-- the save of these parts is written, or torn; or there is no save, and all stays
pub data IsSaved {C : Type 0} (p : SavedParts) (old : Slots) (core after_save : C) (result : Outcome) (new : Slots)
    (after : Option C) : Type 0 where
  written : result ≡ outcomes.Saved p.save → after ≡ Some after_save → SaveWritten p old new (Some p)
      → IsSaved p old core after_save result new after
  torn : (left : Option SavedParts) → result ≡ outcomes.SaveFault → after ≡ None → SaveTorn p old new left
      → IsSaved p old core after_save result new after
  spent : result ≡ outcomes.SavesSpent → new ≡ old → after ≡ Some core
      → IsSaved p old core after_save result new after
  no_memory : result ≡ outcomes.Memory → new ≡ old → after ≡ Some core
      → IsSaved p old core after_save result new after

module _ (id : ℕ) (terms : Terms) (party : ℕ) (slots : Slots) (found : Option SavedParts)
    (ok : SlotsOk id terms party slots found)
    (p : SavedParts) (of : IsSavedBy party id terms p) (number : p.save ≡ next_number found) (text : List ℕ)
    (is_text : IsWrittenText p text) where
  is_written : (new : Slots) → new ≡ with_slot slots (slot_of p.save) text → SaveWritten p slots new (Some p)
  is_written new e =
      let good = subst (λ (x : Slots). SlotsOk id terms party x (Some p)) (sym e)
      (whole id terms party slots found p text ok of number is_text) in
      record { text = text; is_text = is_text; after = record { slots = e; restore = good.written.restore } }

  is_torn : (new : Slots) → LeavesTorn slots (slot_of p.save) text new
      → (left : Option SavedParts) × SaveTorn p slots new left
  is_torn new leaves =
      let made = torn_to id terms party slots found p text leaves.left ok of number is_text leaves.torn in
      let good = subst (λ (x : Slots). SlotsOk id terms party x made.0) (sym leaves.after) made.1 in (
        made.0,
        record {
          text = text;
          is_text = is_text;
          left = leaves.left;
          torn = leaves.torn;
          after = record { slots = leaves.after; restore = good.written.restore };
        },
      )

-- the core gives these parts to save
module _ {C : Type 0} (parts_of : C → SavedParts) (after_save : C → ℕ → C) (honest : Type 0) (is_honest : honest)
    (core : C)
    (id : ℕ) (terms : Terms) (party : ℕ) (old : KeeperView) (found : Option SavedParts)
    (ok : SlotsOk id terms party old.slots found)
    (p : SavedParts) (same : parts_of core ≡ p) (of : IsSavedBy party id terms p)
    (number : p.save ≡ next_number found) where
  pub is_saved : (result : Outcome) (new : KeeperView) (after : Option C)
      → SaveCallsAt parts_of after_save honest old (Some core) result new after
      → IsSaved p old.slots core (after_save core p.save) result new.slots after
  is_saved result new after h = at h.0 (subst (λ (x : SavedParts). IsNextSave x h.0) same h.1) h.2
    where
      told : (slot : Slot) (save : ℕ) (text : List ℕ) → slot ≡ slot_of p.save → save ≡ p.save → IsWrittenText p text
          → (answer : Result (Unit {0}) DeviceFault) → Writes old.slots slot text new.slots answer
          → SaveTold save (after_save core save) answer result after
          → IsSaved p old.slots core (after_save core p.save) result new.slots after
      told slot save text place next spelled (Ok done) writes tells =
          written (tells.0 ∙ ap (λ (n : ℕ). outcomes.Saved n) next)
          (tells.1 ∙ ap (λ (n : ℕ). Some (after_save core n)) next)
          (is_written id terms party old.slots found ok p of number text spelled new.slots
          (writes ∙ ap (λ (s : Slot). with_slot old.slots s text) place))
      told slot save text place next spelled (Err fault) writes tells =
          let leaves = subst (λ (s : Slot). LeavesTorn old.slots s text new.slots) place writes in
          let left = is_torn id terms party old.slots found ok p of number text spelled new.slots leaves in
          torn left.0 tells.0 tells.1 left.1

      at : (next : Result (Slot × ℕ × Vec ℕ) SaveRefusal) → IsNextSave p next
          → SaveGoesOn after_save honest old core next result new after
          → IsSaved p old.slots core (after_save core p.save) result new.slots after
      at (Ok s) next goes = told s.0 s.1 s.2.items next.0 next.1 next.2 goes.0 (goes.1.slots is_honest) goes.2
      at (Err SavesSpent) next goes = spent goes.0 (ap (λ (k : KeeperView). k.slots) goes.1) goes.2
      at (Err Memory) next goes = no_memory goes.0 (ap (λ (k : KeeperView). k.slots) goes.1) goes.2
