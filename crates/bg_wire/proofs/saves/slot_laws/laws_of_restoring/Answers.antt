use Rattle.bg_wire.proofs.OfSaves.OneText.{restores_once, one_of_both}
use Rattle.bg_wire.proofs.OfSaves.SlotTurns.{gives_back}
use Rattle.bg_wire.proofs.saves.slot_laws.laws_of_restoring.Goals as goal

pub returns-clause-once : goal.returns-clause-once
returns-clause-once c = restores_once

pub returns-clause-back : goal.returns-clause-back
returns-clause-back c = gives_back

pub returns-clause-one : goal.returns-clause-one
returns-clause-one c = one_of_both
