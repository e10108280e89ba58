-- A worked keeper in memory behind a fence: two nodes of the referee hold different openings, each
-- as its first save. The keeper takes the one that comes first, and refuses the other.
use Rattle.std.specs.Prelude.{◌≡◌, ◌⊎◌, ℕ, Some, None, List, [], Result, Ok, Err}
use Rattle.std.proofs.Common.{refl, ap, inl, inr, arith}
use Rattle.bg_wire.specs.Saved.Restoring.{SlotsRestore}
use Rattle.bg_wire.specs.Saved.SavedText.{SavedParts, written_text}
use Rattle.bg_wire.specs.Saved.SlotLaws.{Slots, save_in}
use Rattle.bg_wire.specs.declared.saves.slots.Slot.TheVariants.{One}
use Rattle.bg_wire.proofs.OfSaves.OneText.{empty_loads, one_saved, restores_once}
use Rattle.bg_wire.proofs.OfSaves.SavedLaws.{written_is_saved}
use Rattle.bg_protocol.specs.Protocol.Slots.{empty_slots}
use Rattle.bg_protocol.specs.declared.devices.DeviceFault.{DeviceFault}
use Rattle.bg_protocol.specs.declared.devices.DeviceFault.TheVariants.{Failed, Memory}
use Rattle.bg_fences.specs.FencedWrites.{IsNextText, IsWriteFenced, IsWriteRefused, WritesNext}
use Rattle.bg_fences.proofs.WorkedNodes.{o_written, saved_o}
use Rattle.bg_fences.proofs.WorkedProcesses.{saved, saved_written}

-- the texts of the two saves
abbrev of_x : List ℕ
of_x = written_text saved

abbrev of_o : List ℕ
of_o = written_text saved_o

-- the slots once the first is taken
abbrev x_slots : Slots
x_slots = record { zero = []; one = of_x }

none_restored : SlotsRestore [] [] None
none_restored = record { first = None; second = None; first_loads = empty_loads; second_loads = empty_loads; is_newer = refl }

x_restored : SlotsRestore [] of_x (Some saved)
x_restored = record { first = None; second = Some saved; first_loads = empty_loads; second_loads = written_is_saved saved of_x saved_written; is_newer = refl }

x_is_next : IsNextText empty_slots One of_x
x_is_next = record { found = None; restore = none_restored; next = saved; is_text = written_is_saved saved of_x saved_written; numbered = refl; in_turn = refl }

o_is_not_next : IsNextText x_slots One of_o → ⊥
o_is_not_next h =
    let one : h.next ≡ saved_o = one_saved h.next saved_o of_o h.is_text (written_is_saved saved_o of_o o_written) in
    let number : h.next.save ≡ 1 = ap (λ (p : SavedParts). p.save) one in
    let newest : save_in h.found ≡ 1 = ap save_in (restores_once [] of_x h.found (Some saved) h.restore x_restored) in
    omega (arith, number, newest, h.numbered)

-- where there is memory, the first is taken
pub first_is_taken : (new : Slots) (result : Result (Unit {0}) DeviceFault) → WritesNext empty_slots One of_x new result
    → (result ≡ Err Memory) ⊎ ((result ≡ Ok tt) × (new ≡ x_slots))
first_is_taken new (Ok done) h = inr (refl, h.1)
first_is_taken new (Err Failed) h = absurd (h.0 x_is_next)
first_is_taken new (Err Memory) h = inl refl

-- the other is refused: the slots stay
pub second_is_refused : (new : Slots) (result : Result (Unit {0}) DeviceFault) → WritesNext x_slots One of_o new result → IsWriteRefused x_slots result new
second_is_refused new (Ok done) h = absurd (o_is_not_next h.0)
second_is_refused new (Err Failed) h = h.1
second_is_refused new (Err Memory) h = h

-- both keep the fence, as the law of nodes asks of their saves
pub both_are_fenced : (mid new : Slots) (first second : Result (Unit {0}) DeviceFault) → WritesNext empty_slots One of_x mid first → WritesNext x_slots One of_o new second
    → IsWriteFenced empty_slots 1 first mid × IsWriteFenced x_slots 1 second new
both_are_fenced mid new first second h k = (inl (None, none_restored, refl), inr (second_is_refused new second k))
