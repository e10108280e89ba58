use Rattle.bg_wire.proofs.OfSaves.SlotTurns.{gives_back}
use Rattle.bg_wire.specs.Parties.{party_of}
use Rattle.bg_protocol.specs.Protocol.State.{seat_in}
use Rattle.bg_protocol.proofs.Protocol.Reached.{reached, no_slot_refused}
use Rattle.bg_protocol.proofs.worlds.laws.slots_are_given_back.Goals as goal

pub returns : goal.returns
returns c = λ w h.
    let slots = no_slot_refused w (reached w h) in
    record {
      referee = λ answer k. gives_back w.referee.slots w.referee.restorable 0 w.id w.terms answer
          slots.referee.restore slots.referee.of_match k;
      seats = λ q answer k. gives_back (seat_in w q).slots (seat_in w q).restorable (party_of q) w.id w.terms answer
          (slots.seats q).restore (slots.seats q).of_match k;
    }
