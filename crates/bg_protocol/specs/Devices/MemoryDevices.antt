-- What contracts see of a link and of a keeper in memory.
use Rattle.std.specs.Prelude.{ℕ, List, length, Option, Some, Result, Ok}
use Rattle.arrayvec.specs.ArrayVec.{ArrayVec}
use Rattle.bg_wire.specs.Saved.SlotLaws.{Slots}
use Rattle.bg_wire.specs.declared.packets.Datagram.{Datagram}
use Rattle.bg_protocol.specs.Devices.Handed.{noted}
use Rattle.bg_protocol.specs.Devices.Plan.{KeeperPlan}
use Rattle.bg_protocol.specs.Worlds.Views.{KeeperView, LinkView}
use Rattle.bg_protocol.specs.declared.devices.DeviceFault.{DeviceFault}
use Rattle.bg_protocol.specs.declared.devices.memory_keeper.MemoryKeeper.{MemoryKeeper}
use Rattle.bg_protocol.specs.declared.devices.memory_net.MemoryNet.{MemoryNet}
use Rattle.bg_protocol.specs.declared.devices.plans.FailSend.{FailSend}

-- ---- the link

abbrev pub sent_over : MemoryNet → List Datagram
sent_over net = net.sent

abbrev pub net_plan : MemoryNet → List FailSend
net_plan net = net.failing.items

abbrev pub net_faults : MemoryNet → ℕ
net_faults net = length net.faults.bytes

abbrev pub takes_of : MemoryNet → ℕ
takes_of net = length net.takes.bytes

abbrev pub sends_of : MemoryNet → ℕ
sends_of net = length net.sends.bytes

abbrev pub last_taken : MemoryNet → Result (Option (ArrayVec ℕ)) DeviceFault
last_taken net = Ok (noted net.taken)

-- the link as a world sees it; its plan is known
abbrev pub memory_link_view : MemoryNet → LinkView
memory_link_view net = record {
  plan = Some (net_plan net);
  sent = sent_over net;
  faults = net_faults net;
  takes = takes_of net;
  sends = sends_of net;
  taken = last_taken net;
}

-- ---- a keeper

abbrev pub slots_of : MemoryKeeper → Slots
slots_of keeper = keeper.texts

abbrev pub keeper_plan : MemoryKeeper → KeeperPlan
keeper_plan keeper = record { party = keeper.party; tears = keeper.tears.items; reads = keeper.failing.items }

abbrev pub keeper_faults : MemoryKeeper → ℕ
keeper_faults keeper = length keeper.faults.bytes

abbrev pub writes_of : MemoryKeeper → ℕ
writes_of keeper = length keeper.writes.bytes

abbrev pub reads_of : MemoryKeeper → ℕ
reads_of keeper = length keeper.reads.bytes

abbrev pub last_written : MemoryKeeper → Result (Unit {0}) DeviceFault
last_written keeper = keeper.written

-- a keeper as a world sees it; its plan is known
abbrev pub memory_keeper_view : MemoryKeeper → KeeperView
memory_keeper_view keeper = record {
  plan = Some (keeper_plan keeper);
  slots = slots_of keeper;
  faults = keeper_faults keeper;
  writes = writes_of keeper;
  reads = reads_of keeper;
  written = last_written keeper;
}
