-- The words of a script's faults.
use Rattle.std.specs.Prelude.{ℕ, List}
use Rattle.bg_streams.specs.FaultWords.{engine_fault_words}
use Rattle.bg_protocol.specs.FaultWords.{world_fault_words}
use Rattle.bg_world.specs.declared.texts.scripts.ScriptFault.{ScriptFault}
use Rattle.bg_world.specs.declared.texts.scripts.ScriptFault.TheVariants as script_fault

abbrev pub script_fault_words : ScriptFault → List ℕ
script_fault_words (script_fault.World why) = world_fault_words why
script_fault_words (script_fault.Engine why) = engine_fault_words why
