use Rattle.bg_wire.proofs.OfPackets.PacketFaults.{one_wire_fault, packets_have_no_fault}
use Rattle.bg_wire.proofs.OfSaves.SavedFaults.{one_load_fault, saved_texts_have_no_fault}
use Rattle.bg_wire.proofs.saves.slot_laws.laws_of_faults.Goals as goal

pub returns-clause-packets : goal.returns-clause-packets
returns-clause-packets c = one_wire_fault

pub returns-clause-fine_packets : goal.returns-clause-fine_packets
returns-clause-fine_packets c = packets_have_no_fault

pub returns-clause-saved : goal.returns-clause-saved
returns-clause-saved c = one_load_fault

pub returns-clause-fine_saved : goal.returns-clause-fine_saved
returns-clause-fine_saved c = saved_texts_have_no_fault
