-- The words of faults.
use Rattle.std.specs.Prelude.{ℕ, List, codes}
use Rattle.bg_referee.specs.declared.outcomes.DueFault.{DueFault}
use Rattle.bg_referee.specs.declared.outcomes.DueFault.TheVariants as due_fault

abbrev pub due_fault_words : DueFault → List ℕ
due_fault_words due_fault.NothingDue = codes "nothing due"
due_fault_words due_fault.WordRefused = codes "word refused"
due_fault_words due_fault.EqualOpening = codes "equal opening"
due_fault_words due_fault.RecordFull = codes "record full"
due_fault_words due_fault.Memory = codes "out of memory"
