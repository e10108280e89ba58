-- The words of refusals.
use Rattle.std.specs.Prelude.{ℕ, List, codes}
use Rattle.bg_typed.specs.declared.faults.TypedFault.{TypedFault}
use Rattle.bg_typed.specs.declared.faults.TypedFault.TheVariants as typed_fault

-- why a typed turn is refused
abbrev pub typed_fault_words : TypedFault → List ℕ
typed_fault_words typed_fault.NotAMovement = codes "not a movement"
typed_fault_words typed_fault.TooManySteps = codes "too many steps"
typed_fault_words typed_fault.NoSuchTurn = codes "no legal turn has this movement"
typed_fault_words typed_fault.WrongHits = codes "no legal turn has this movement with these hits"
typed_fault_words (typed_fault.Ambiguous one other) = codes "legal turns of this movement hit on different points"
typed_fault_words typed_fault.SeveralTurns = codes "several turns are legal"
typed_fault_words typed_fault.Memory = codes "out of memory"
