-- The words of faults.
use Rattle.std.specs.Prelude.{ℕ, List, ◌++◌, codes}
use Rattle.std.specs.Fmt.{decimal}
use Rattle.bg_turns.specs.FaultWords.{turn_fault_words}
use Rattle.bg_match.specs.declared.entries.NoDouble.{NoDouble}
use Rattle.bg_match.specs.declared.entries.NoDouble.TheVariants as no_double
use Rattle.bg_match.specs.declared.entries.EntryFault.{EntryFault}
use Rattle.bg_match.specs.declared.entries.EntryFault.TheVariants as entry_fault
use Rattle.bg_match.specs.declared.entries.ExtendFault.{ExtendFault}
use Rattle.bg_match.specs.declared.entries.ExtendFault.TheVariants as extend_fault
use Rattle.bg_match.specs.declared.records.LengthFault.{LengthFault}
use Rattle.bg_match.specs.declared.records.LengthFault.TheVariants as length_fault

abbrev pub no_double_words : NoDouble → List ℕ
no_double_words no_double.Crawford = codes "crawford"
no_double_words no_double.NotOwner = codes "not owner"
no_double_words no_double.AtCap = codes "at cap"

abbrev pub entry_fault_words : EntryFault → List ℕ
entry_fault_words entry_fault.RecordFull = codes "record full"
entry_fault_words entry_fault.MatchOver = codes "match over"
entry_fault_words entry_fault.WrongPhase = codes "wrong phase"
entry_fault_words entry_fault.EqualOpening = codes "equal opening"
entry_fault_words (entry_fault.Turn why) = turn_fault_words why
entry_fault_words (entry_fault.NoDouble why) = codes "no double: " ++ no_double_words why
entry_fault_words entry_fault.Memory = codes "out of memory"

abbrev pub extend_fault_words : ExtendFault → List ℕ
extend_fault_words (extend_fault.Illegal n) = codes "illegal entry " ++ decimal n
extend_fault_words extend_fault.Memory = codes "out of memory"

abbrev pub length_fault_words : LengthFault → List ℕ
length_fault_words length_fault.LengthOutOfRange = codes "length out of range"
