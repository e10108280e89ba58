-- What the reads of the slots of an honest keeper come to.
use Rattle.std.specs.Prelude.{◌≡◌, ℕ, List, Option, Some, None, Result, Ok, Err, IfOk, MatchResult}
use Rattle.std.specs.Global.{Vec}
use Rattle.std.proofs.Common.{sym, ◌∙◌, ap, subst}
use Rattle.bg_match.specs.Terms.{Terms}
use Rattle.bg_wire.specs.declared.faults.RestoreRefusal.{RestoreRefusal}
use Rattle.bg_wire.specs.declared.faults.RestoreRefusal.TheVariants as refusals
use Rattle.bg_wire.specs.declared.saves.Saved.{Saved}
use Rattle.bg_wire.specs.declared.saves.slots.Slot.TheVariants as slots
use Rattle.bg_wire.proofs.OfSaves.SlotTurns.{gives_back}
use Rattle.bg_wire.specs.Saved.SlotLaws.{GivesBack, Slots, bytes_in}
use Rattle.bg_wire.specs.Saved.Restoring.{Restores}
use Rattle.bg_wire.specs.Saved.SavedText.{SavedParts, parts_of}
use Rattle.bg_protocol.specs.declared.devices.DeviceFault.{DeviceFault}
use Rattle.bg_protocol.specs.declared.devices.DeviceFault.TheVariants as faults
use Rattle.bg_protocol.specs.declared.events.Outcome.{Outcome}
use Rattle.bg_protocol.specs.declared.events.Outcome.TheVariants as outcomes
use Rattle.bg_protocol.specs.declared.events.RestoreCause.TheVariants as causes
use Rattle.bg_protocol.specs.Worlds.Views.{KeeperView}
use Rattle.bg_protocol.specs.Devices.KeeperCalls.{ReadsBoth, ReadsSecond, restored_of}
use Rattle.bg_protocol.specs.Devices.DeviceCalls.{read_outcome}
use Rattle.bg_protocol.proofs.Protocol.Saving.{SlotsOk}

-- what the reads of the slots come to: what these restore is given back, or a read failed, or
-- memory was wanted
pub data IsReread (restored : Option SavedParts) (answer : Result (Option Saved) Outcome) : Type 0 where
  given : (s : Saved) → restored ≡ Some (parts_of s) → answer ≡ Ok (Some s) → IsReread restored answer
  empty : restored ≡ None → answer ≡ Ok None → IsReread restored answer
  not_read : answer ≡ Err (outcomes.RestoreFault causes.Device) → IsReread restored answer
  no_memory : answer ≡ Err outcomes.Memory → IsReread restored answer

module _ (id : ℕ) (terms : Terms) (party : ℕ) (found : Option SavedParts) where
  told : (r : Result (Option Saved) RestoreRefusal) (answer : Result (Option Saved) Outcome) → GivesBack found r
      → answer ≡ restored_of r → IsReread found answer
  told (Ok None) answer back e = empty (sym back) e
  told (Ok (Some s)) answer back e = given s (sym back) e
  told (Err refusals.Damaged) answer back e = absurd back
  told (Err refusals.WrongMatch) answer back e = absurd back
  told (Err refusals.Memory) answer back e = no_memory e

  failed : (f : DeviceFault) (answer : Result (Option Saved) Outcome) → answer ≡ Err (read_outcome f)
      → IsReread found answer
  failed faults.Failed answer e = not_read e
  failed faults.Memory answer e = no_memory e

  module _ (honest : Type 0) (is_honest : honest) (old new : KeeperView) (answer : Result (Option Saved) Outcome)
      (ok : SlotsOk id terms party old.slots found) where
    second : (mid : KeeperView) (zero : List ℕ) → mid.slots ≡ old.slots → zero ≡ old.slots.zero
        → ReadsSecond honest party id terms mid zero answer new
        → IsReread found answer × (new.slots ≡ old.slots)
    second mid zero same is h = at h.0 (h.1.bytes is_honest) h.2
      where
        after : new.slots ≡ old.slots
        after = h.1.same is_honest ∙ same

        at : (read : Result (Vec ℕ) DeviceFault) → IfOk read (λ found. found.items ≡ bytes_in mid.slots slots.One)
            → MatchResult read
            (λ one. (r : Result (Option Saved) RestoreRefusal) × Restores zero one.items party id terms r
            × (answer ≡ restored_of r))
            (λ fault. answer ≡ Err (read_outcome fault))
            → IsReread found answer × (new.slots ≡ old.slots)
        at (Ok one) bytes k =
            let there : one.items ≡ old.slots.one = bytes ∙ ap (λ (x : Slots). x.one) same in
            let again : Restores old.slots.zero old.slots.one party id terms k.0 =
            subst (λ (x : List ℕ). Restores x old.slots.one party id terms k.0) is
            (subst (λ (x : List ℕ). Restores zero x party id terms k.0) there k.1) in
            (told k.0 answer (gives_back old.slots found party id terms k.0 ok.written.restore ok.of_match again) k.2, after)
        at (Err f) bytes k = (failed f answer k, after)

    pub rereads : ReadsBoth honest party id terms old answer new → IsReread found answer × (new.slots ≡ old.slots)
    rereads h = at h.0 (h.2.bytes is_honest) h.3
      where
        same : (h.1).slots ≡ old.slots
        same = h.2.same is_honest

        at : (read : Result (Vec ℕ) DeviceFault) → IfOk read (λ found. found.items ≡ bytes_in old.slots slots.Zero)
            → MatchResult read (λ zero. ReadsSecond honest party id terms h.1 zero.items answer new)
            (λ fault. (answer ≡ Err (read_outcome fault)) × (new ≡ h.1))
            → IsReread found answer × (new.slots ≡ old.slots)
        at (Ok zero) bytes k = second h.1 zero.items same bytes k
        at (Err f) bytes k = (failed f answer k.0, ap (λ (x : KeeperView). x.slots) k.1 ∙ same)
