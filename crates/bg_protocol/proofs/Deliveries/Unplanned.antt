-- Where a plan is empty no call fails by itself.
use Rattle.std.proofs.Common.{◌≡◌, ℕ, Bool, true, false, cond, List, [], Option, None, Result, Ok, Err}
use Rattle.std.specs.Global.{Vec}
use Rattle.bg_wire.specs.Saved.SlotLaws.{Slots}
use Rattle.bg_wire.specs.declared.packets.Datagram.{Datagram}
use Rattle.bg_wire.specs.declared.saves.slots.Slot.{Slot}
use Rattle.bg_protocol.specs.Devices.Honesty.{CountsFailed}
use Rattle.bg_protocol.specs.Devices.Plan.{KeeperPlan, ReadsBy, SendsBy, WritesBy, failure_at, names_call, read_failure_at, tear_at}
use Rattle.bg_protocol.specs.declared.devices.DeviceFault.{DeviceFault}
use Rattle.bg_protocol.specs.declared.devices.DeviceFault.TheVariants.{Failed, Memory}

-- the plan of a keeper by which nothing fails
abbrev pub no_failures : ℕ → KeeperPlan
no_failures party = record { party = party; tears = []; reads = [] }

-- the plan names nothing, whether it may name the call or not
nothing_named : {F : Type 0} (P : Option F → Type 0) (b : Bool) → P (cond b None None) → P None
nothing_named P true h = h
nothing_named P false h = h

sends : (old : List Datagram) (datagram : Datagram) (new : List Datagram) (result : Result (Unit {0}) DeviceFault)
    (before after : ℕ) → SendsBy None old datagram new result → CountsFailed before after result → after ≡ before
sends old datagram new (Ok done) before after by counted = counted
sends old datagram new (Err Failed) before after by counted = absurd by
sends old datagram new (Err Memory) before after by counted = counted

pub unplanned_send : (nth : ℕ) (old : List Datagram) (datagram : Datagram) (new : List Datagram)
    (result : Result (Unit {0}) DeviceFault) (before after : ℕ)
    → SendsBy (failure_at [] nth) old datagram new result → CountsFailed before after result → after ≡ before
unplanned_send nth old datagram new result before after by =
    sends old datagram new result before after
    (nothing_named (λ failure. SendsBy failure old datagram new result) (names_call nth) by)

writes : (old : Slots) (slot : Slot) (bytes : List ℕ) (new : Slots) (result : Result (Unit {0}) DeviceFault)
    (before after : ℕ) → WritesBy None old slot bytes new result → CountsFailed before after result → after ≡ before
writes old slot bytes new (Ok done) before after by counted = counted
writes old slot bytes new (Err Failed) before after by counted = absurd by
writes old slot bytes new (Err Memory) before after by counted = counted

pub unplanned_write : (party nth : ℕ) (old : Slots) (slot : Slot) (bytes : List ℕ) (new : Slots)
    (result : Result (Unit {0}) DeviceFault) (before after : ℕ)
    → WritesBy (tear_at (no_failures party) nth) old slot bytes new result → CountsFailed before after result
    → after ≡ before
unplanned_write party nth old slot bytes new result before after by =
    writes old slot bytes new result before after
    (nothing_named (λ tear. WritesBy tear old slot bytes new result) (names_call nth) by)

reads : (slots : Slots) (slot : Slot) (result : Result (Vec ℕ) DeviceFault) (before after : ℕ)
    → ReadsBy None slots slot result → CountsFailed before after result → after ≡ before
reads slots slot (Ok bytes) before after by counted = counted
reads slots slot (Err Failed) before after by counted = absurd by
reads slots slot (Err Memory) before after by counted = counted

pub unplanned_read : (party nth : ℕ) (slots : Slots) (slot : Slot) (result : Result (Vec ℕ) DeviceFault)
    (before after : ℕ)
    → ReadsBy (read_failure_at (no_failures party) nth) slots slot result → CountsFailed before after result
    → after ≡ before
unplanned_read party nth slots slot result before after by =
    reads slots slot result before after
    (nothing_named (λ failure. ReadsBy failure slots slot result) (names_call nth) by)
