use Rattle.bg_wire.proofs.OfSaves.SlotTurns.{goes_by_turns, next_goes_to_the_other, written_restores, torn_restores}
use Rattle.bg_wire.proofs.saves.slot_laws.laws_of_saving.Goals as goal

pub returns-clause-turns : goal.returns-clause-turns
returns-clause-turns c = goes_by_turns

pub returns-clause-other : goal.returns-clause-other
returns-clause-other c = next_goes_to_the_other

pub returns-clause-written : goal.returns-clause-written
returns-clause-written c = written_restores

pub returns-clause-torn : goal.returns-clause-torn
returns-clause-torn c = torn_restores
