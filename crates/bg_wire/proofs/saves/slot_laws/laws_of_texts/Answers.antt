use Rattle.bg_wire.proofs.OfSaves.OneText.{one_packet, one_saved}
use Rattle.bg_wire.proofs.RulesLaws.{texts_tell_rules}
use Rattle.bg_wire.proofs.saves.slot_laws.laws_of_texts.Goals as goal

pub returns-clause-packets : goal.returns-clause-packets
returns-clause-packets c = one_packet

pub returns-clause-rules : goal.returns-clause-rules
returns-clause-rules c = texts_tell_rules

pub returns-clause-saved : goal.returns-clause-saved
returns-clause-saved c = one_saved
