use Rattle.bg_wire.proofs.OfSaves.OneText.{front_loads, empty_loads, loads_once}
use Rattle.bg_wire.proofs.saves.slot_laws.laws_of_loading.Goals as goal

pub returns-clause-once : goal.returns-clause-once
returns-clause-once c = loads_once

pub returns-clause-cut : goal.returns-clause-cut
returns-clause-cut c = front_loads

pub returns-clause-empty : goal.returns-clause-empty
returns-clause-empty c = empty_loads
