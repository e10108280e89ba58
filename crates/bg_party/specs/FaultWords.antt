-- The words of faults.
use Rattle.std.specs.Prelude.{ℕ, List, ◌++◌, codes}
use Rattle.bg_match.specs.FaultWords.{entry_fault_words}
use Rattle.bg_party.specs.declared.outcomes.ChooseFault.{ChooseFault}
use Rattle.bg_party.specs.declared.outcomes.ChooseFault.TheVariants as choose_fault

abbrev pub choose_fault_words : ChooseFault → List ℕ
choose_fault_words choose_fault.NotYourTurn = codes "not your turn"
choose_fault_words choose_fault.AlreadyClaimed = codes "already claimed"
choose_fault_words (choose_fault.Illegal why) = codes "illegal action: " ++ entry_fault_words why
