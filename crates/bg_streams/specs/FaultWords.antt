-- The words of faults.
use Rattle.std.specs.Prelude.{ℕ, List, codes}
use Rattle.bg_streams.specs.declared.faults.EngineFault.{EngineFault}
use Rattle.bg_streams.specs.declared.faults.EngineFault.TheVariants as engine_fault

abbrev pub engine_fault_words : EngineFault → List ℕ
engine_fault_words engine_fault.Read = codes "the input could not be read"
engine_fault_words engine_fault.Write = codes "the output could not be written"
engine_fault_words engine_fault.Memory = codes "out of memory"

abbrev pub stream_fault_words : List ℕ
stream_fault_words = codes "the device failed"
