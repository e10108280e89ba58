-- The words of faults.
use Rattle.std.specs.Prelude.{ℕ, List, ◌++◌, codes}
use Rattle.std.specs.Fmt.{decimal}
use Rattle.bg_turns.specs.declared.faults.TurnFault.{TurnFault}
use Rattle.bg_turns.specs.declared.faults.TurnFault.TheVariants as turn_fault

abbrev pub turn_fault_words : TurnFault → List ℕ
turn_fault_words (turn_fault.StepIllegal played) =
    codes "only the first " ++ decimal played ++ codes " steps can be played"
turn_fault_words turn_fault.MoreCanBePlayed = codes "more dice can be played"
turn_fault_words turn_fault.LargerMustBePlayed = codes "the larger die must be played"
