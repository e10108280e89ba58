-- Which calls of a device fail by its plan, and what a call that follows a plan does. Calls are
-- counted from 1 over the whole run, those that failed included.
use Rattle.std.specs.Prelude.{◌≡◌, ◌≢◌, ℕ, List, [], ◌∷◌, ◌++◌, Bool, ◌&&◌, Option, Some, None, Result, Ok, Err, IsTrue}
use Rattle.std.specs.Prelude.{take, find, nat_lt, ◌==◌, if◌then◌else◌}
use Rattle.std.specs.Global.{Vec}
use Rattle.bg_wire.specs.Saved.SlotLaws.{Slots, bytes_in, with_slot}
use Rattle.bg_wire.specs.declared.packets.Datagram.{Datagram}
use Rattle.bg_wire.specs.declared.saves.slots.Slot.{Slot}
use Rattle.bg_protocol.specs.declared.devices.DeviceFault.{DeviceFault}
use Rattle.bg_protocol.specs.declared.devices.DeviceFault.TheVariants.{Failed, Memory}
use Rattle.bg_protocol.specs.declared.devices.plans.FailRead.{FailRead}
use Rattle.bg_protocol.specs.declared.devices.plans.FailSend.{FailSend}
use Rattle.bg_protocol.specs.declared.devices.plans.Tear.{Tear}

-- ---- which call fails

-- a plan names calls below this number
abbrev pub unnamed_call : ℕ
unnamed_call = 4294967295

-- a plan may name the call of this number
abbrev pub names_call : ℕ → Bool
names_call nth = nat_lt 0 nth && nat_lt nth unnamed_call

-- what a plan says of the send of this number: its first entry for it, if there is one
abbrev pub failure_at : List FailSend → ℕ → Option FailSend
failure_at sends nth = if names_call nth then find (λ failure. failure.nth == nth) sends else None

-- the plan of the keeper of a party
pub record KeeperPlan : Type 0 where
  pub party : ℕ
  pub tears : List Tear
  pub reads : List FailRead

-- what a plan says of the keeper's write of this number: its first entry for it, if there is one
abbrev pub tear_at : KeeperPlan → ℕ → Option Tear
tear_at plan nth =
    if names_call nth then find (λ tear. (tear.party == plan.party) && (tear.nth == nth)) plan.tears else None

-- the same of its reads
abbrev pub read_failure_at : KeeperPlan → ℕ → Option FailRead
read_failure_at plan nth =
    if names_call nth then find (λ failure. (failure.party == plan.party) && (failure.nth == nth)) plan.reads else None

-- ---- what a call does by its plan

-- A send goes out where the plan says nothing of it. Where it has a failure for it, the send fails,
-- and goes out or not as the failure says. Memory is wanted only by a send that goes out, which
-- then does not.
abbrev pub SendsBy : Option FailSend → List Datagram → Datagram → List Datagram → Result (Unit {0}) DeviceFault → Type 0
SendsBy None old datagram new (Ok done) = new ≡ old ++ datagram ∷ []
SendsBy None old datagram new (Err Failed) = ⊥
SendsBy None old datagram new (Err Memory) = new ≡ old
SendsBy (Some failure) old datagram new (Ok done) = ⊥
SendsBy (Some failure) old datagram new (Err Failed) = new ≡ (if failure.went then old ++ datagram ∷ [] else old)
SendsBy (Some failure) old datagram new (Err Memory) = IsTrue failure.went × (new ≡ old)

-- what a torn write leaves: the slots as they were, or the first bytes in its slot
abbrev pub torn_at : Option ℕ → Slots → Slot → List ℕ → Slots
torn_at None slots slot bytes = slots
torn_at (Some cut) slots slot bytes = with_slot slots slot (take cut bytes)

-- a torn write leaves bytes, at least one
abbrev pub LeavesBytes : Option ℕ → List ℕ → Type 0
LeavesBytes None bytes = ⊥
LeavesBytes (Some cut) bytes = take cut bytes ≢ []

-- A write leaves its bytes where the plan says nothing of it. Where it has a tear for it, the write
-- fails, and leaves what the tear says. Memory is wanted only by a write that leaves bytes, which
-- then leaves the slots as they were.
abbrev pub WritesBy : Option Tear → Slots → Slot → List ℕ → Slots → Result (Unit {0}) DeviceFault → Type 0
WritesBy None old slot bytes new (Ok done) = new ≡ with_slot old slot bytes
WritesBy None old slot bytes new (Err Failed) = ⊥
WritesBy None old slot bytes new (Err Memory) = (bytes ≢ []) × (new ≡ old)
WritesBy (Some tear) old slot bytes new (Ok done) = ⊥
WritesBy (Some tear) old slot bytes new (Err Failed) = new ≡ torn_at tear.cut old slot bytes
WritesBy (Some tear) old slot bytes new (Err Memory) = LeavesBytes tear.cut bytes × (new ≡ old)

-- A read gives the bytes of its slot, or wants memory for them if there are any, where the plan
-- says nothing of it. Where it has a failure for it, the read fails.
abbrev pub ReadsBy : Option FailRead → Slots → Slot → Result (Vec ℕ) DeviceFault → Type 0
ReadsBy None slots slot (Ok bytes) = bytes.items ≡ bytes_in slots slot
ReadsBy None slots slot (Err Failed) = ⊥
ReadsBy None slots slot (Err Memory) = bytes_in slots slot ≢ []
ReadsBy (Some failure) slots slot (Ok bytes) = ⊥
ReadsBy (Some failure) slots slot (Err Failed) = Unit {0}
ReadsBy (Some failure) slots slot (Err Memory) = ⊥
