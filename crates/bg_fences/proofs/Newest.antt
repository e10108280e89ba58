-- What holds of the state that a process acts in whose last save is the newest.
use Rattle.std.specs.Prelude.{◌≡◌, true, Contains}
use Rattle.std.proofs.Common.{refl, sym, ◌∙◌}
use Rattle.bg_board.specs.declared.players.Player.{Player}
use Rattle.bg_board.specs.declared.players.Player.TheVariants.{X, O}
use Rattle.bg_wire.specs.Parties.{party_of}
use Rattle.bg_wire.proofs.OfSaves.SlotTurns.{gives_back}
use Rattle.bg_protocol.specs.declared.roles.Role.{Role}
use Rattle.bg_protocol.specs.declared.roles.Role.TheVariants.{Referee as AsReferee, Seat as AsSeat, Watcher as AsWatcher}
use Rattle.bg_protocol.specs.Promises.GivenBack.{AreSlotsGivenBack}
use Rattle.bg_protocol.specs.Promises.Refusals.{AreNoEntriesRefused}
use Rattle.bg_protocol.specs.Protocol.Roles.{role}
use Rattle.bg_protocol.specs.Protocol.State.{ProtocolState, SeatState, log_as, restored_seat, seat_in, with_seat}
use Rattle.bg_protocol.proofs.Protocol.Invariant.{Inv, seat_steps}
use Rattle.bg_protocol.proofs.Protocol.Reached.{agreement, headline, no_more, no_packet_refused, no_slot_refused, saves_survive}
use Rattle.bg_fences.specs.FencedPromises.{HoldsOfNewest, HoldsOfOne}
use Rattle.bg_fences.specs.SharedMatches.{SeatProcess, SharedMatch, at_rest, seats_of, seen_by_referee, seen_by_seat, stored_of}
use Rattle.bg_fences.proofs.Invariant.{Earlier, FencedInv, ready}
use Rattle.bg_fences.proofs.RefereeCalls as at_referee
use Rattle.bg_fences.proofs.SeatCalls as at_seat

slots_given_back : (w : ProtocolState) → Inv w → AreSlotsGivenBack w
slots_given_back w inv =
    let slots = no_slot_refused w inv in
    record {
      referee = λ answer k. gives_back w.referee.slots w.referee.restorable 0 w.id w.terms answer slots.referee.restore slots.referee.of_match k;
      seats = λ q answer k. gives_back (seat_in w q).slots (seat_in w q).restorable (party_of q) w.id w.terms answer (slots.seats q).restore (slots.seats q).of_match k;
    }

holds_of_one : (w : ProtocolState) → Inv w → HoldsOfOne w
holds_of_one w inv = record {
  headline = headline w inv;
  agreement = agreement w inv;
  saved_alone = no_more w inv;
  packets = no_packet_refused w inv;
  slots = no_slot_refused w inv;
  survive = saves_survive w inv;
  given_back = slots_given_back w inv;
}

-- the seat with what its slots restore, but for the record of a process
abbrev resting : SharedMatch → Player → SeatProcess → SeatState
resting m q f = record (restored_seat (stored_of m q).slots (stored_of m q).restorable true) { log = f.log }

same_logs_x : (m : SharedMatch) (f : SeatProcess) (r : Role) → log_as (seen_by_seat m X f) r ≡ log_as (with_seat (at_rest m) X (resting m X f)) r
same_logs_x m f AsReferee = refl
same_logs_x m f (AsSeat X) = refl
same_logs_x m f (AsSeat O) = refl
same_logs_x m f (AsWatcher i) = refl

same_logs_o : (m : SharedMatch) (f : SeatProcess) (r : Role) → log_as (seen_by_seat m O f) r ≡ log_as (with_seat (at_rest m) O (resting m O f)) r
same_logs_o m f AsReferee = refl
same_logs_o m f (AsSeat X) = refl
same_logs_o m f (AsSeat O) = refl
same_logs_o m f (AsWatcher i) = refl

rests : {earlier : Earlier} (m : SharedMatch) (q : Player) (f : SeatProcess) (inv : FencedInv earlier m) → Contains (seats_of m q) f → Inv (with_seat (at_rest m) q (resting m q f))
rests {earlier} m X f inv c = seat_steps (at_rest m) X (resting m X f) inv.base (at_seat.with_log m.id m.terms m.sent (ready m) X (restored_seat m.x.slots m.x.restorable true) f.log inv.base.x ((inv.seats X).each f c).log)
rests {earlier} m O f inv c = seat_steps (at_rest m) O (resting m O f) inv.base (at_seat.with_log m.id m.terms m.sent (ready m) O (restored_seat m.o.slots m.o.restorable true) f.log inv.base.o ((inv.seats O).each f c).log)

entries : {earlier : Earlier} (m : SharedMatch) (q : Player) (f : SeatProcess) (inv : FencedInv earlier m) → Contains (seats_of m q) f → AreNoEntriesRefused (seen_by_seat m q f)
entries {earlier} m X f inv c =
    let h = (no_packet_refused (with_seat (at_rest m) X (resting m X f)) (rests m X f inv c)).entries in
    record {
      agree = λ party log to id rules start list l g s. h.agree party log to id rules start list l (sym (same_logs_x m f (role party)) ∙ g) s;
      follow = λ party log to id rules start list l g s. h.follow party log to id rules start list l (sym (same_logs_x m f (role party)) ∙ g) s;
    }
entries {earlier} m O f inv c =
    let h = (no_packet_refused (with_seat (at_rest m) O (resting m O f)) (rests m O f inv c)).entries in
    record {
      agree = λ party log to id rules start list l g s. h.agree party log to id rules start list l (sym (same_logs_o m f (role party)) ∙ g) s;
      follow = λ party log to id rules start list l g s. h.follow party log to id rules start list l (sym (same_logs_o m f (role party)) ∙ g) s;
    }

pub holds_of_newest : {earlier : Earlier} (m : SharedMatch) → FencedInv earlier m → HoldsOfNewest m
holds_of_newest {earlier} m inv = record {
  rest = holds_of_one (at_rest m) inv.base;
  referees = λ p c is. holds_of_one (seen_by_referee m p) (at_referee.as_newest m p inv (inv.referees p c) is);
  seats = λ q f c is. holds_of_one (seen_by_seat m q f) (at_seat.as_newest m q f inv ((inv.seats q).each f c) is);
  entries = λ q f c. entries m q f inv c;
}
