-- The words of faults, as texts have them.
use Rattle.std.specs.Prelude.{ℕ, List, ◌++◌, Option, Some, None, codes}
use Rattle.std.specs.Fmt.{decimal}
use Rattle.bg_wire.specs.declared.faults.WireFault.{WireFault}
use Rattle.bg_wire.specs.declared.faults.WireFault.TheVariants as wire
use Rattle.bg_wire.specs.declared.faults.LoadFault.{LoadFault}
use Rattle.bg_wire.specs.declared.faults.LoadFault.TheVariants as load
use Rattle.bg_wire.specs.declared.faults.SaveRefusal.{SaveRefusal}
use Rattle.bg_wire.specs.declared.faults.SaveRefusal.TheVariants as save_refusal
use Rattle.bg_wire.specs.declared.faults.RestoreRefusal.{RestoreRefusal}
use Rattle.bg_wire.specs.declared.faults.RestoreRefusal.TheVariants as restore_refusal

-- words, and the number behind them, if there is one
abbrev pub numbered : List ℕ → Option ℕ → List ℕ
numbered words None = words
numbered words (Some n) = words ++ decimal n

abbrev pub wire_fault_words : WireFault → List ℕ
wire_fault_words wire.Short = codes "short"
wire_fault_words wire.Magic = codes "bad magic"
wire_fault_words wire.Version = codes "bad version"
wire_fault_words wire.Kind = codes "bad kind"
wire_fault_words (wire.Field at) = codes "bad field at " ++ decimal at
wire_fault_words wire.Extra = codes "extra bytes"

abbrev pub load_fault_words : LoadFault → List ℕ
load_fault_words load.Short = codes "short"
load_fault_words load.Magic = codes "bad magic"
load_fault_words (load.Field at) = codes "bad field at " ++ decimal at
load_fault_words load.Extra = codes "extra bytes"
load_fault_words (load.Illegal n) = codes "illegal entry " ++ decimal n
load_fault_words load.Memory = codes "out of memory"

abbrev pub save_refusal_words : SaveRefusal → List ℕ
save_refusal_words save_refusal.SavesSpent = codes "saves spent"
save_refusal_words save_refusal.Memory = codes "out of memory"

abbrev pub restore_refusal_words : RestoreRefusal → List ℕ
restore_refusal_words restore_refusal.Damaged = codes "damaged"
restore_refusal_words restore_refusal.WrongMatch = codes "wrong match"
restore_refusal_words restore_refusal.Memory = codes "out of memory"
