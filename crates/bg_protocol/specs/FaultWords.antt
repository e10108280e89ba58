-- The words of faults.
use Rattle.std.specs.Prelude.{ℕ, List, codes}
use Rattle.bg_protocol.specs.declared.devices.DeviceFault.{DeviceFault}
use Rattle.bg_protocol.specs.declared.devices.DeviceFault.TheVariants as device_fault
use Rattle.bg_protocol.specs.declared.worlds.setups.WorldFault.{WorldFault}
use Rattle.bg_protocol.specs.declared.worlds.setups.WorldFault.TheVariants as world_fault

abbrev pub device_fault_words : DeviceFault → List ℕ
device_fault_words device_fault.Failed = codes "the device failed"
device_fault_words device_fault.Memory = codes "out of memory"

abbrev pub world_fault_words : WorldFault → List ℕ
world_fault_words world_fault.TooManyWatchers = codes "too many watchers"
world_fault_words world_fault.LengthOutOfRange = codes "length out of range"
world_fault_words world_fault.Memory = codes "out of memory"
