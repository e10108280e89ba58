-- The words of faults.
use Rattle.std.specs.Prelude.{ℕ, List, codes}
use Rattle.bg_protocol.specs.FaultWords.{world_fault_words}
use Rattle.bg_world.specs.Texts.OutcomeText.{outcome_text}
use Rattle.bg_auto.specs.declared.loop_faults.LoopFault.{LoopFault}
use Rattle.bg_auto.specs.declared.loop_faults.LoopFault.TheVariants as loop_fault

abbrev pub loop_fault_words : LoopFault → List ℕ
loop_fault_words (loop_fault.World why) = world_fault_words why
loop_fault_words loop_fault.Socket = codes "a socket could not be opened on 127.0.0.1"
loop_fault_words (loop_fault.Stopped outcome) = outcome_text outcome
loop_fault_words loop_fault.Write = codes "the output could not be written"
loop_fault_words loop_fault.Memory = codes "out of memory"
