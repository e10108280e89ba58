-- What holds of each reached world.
use Rattle.std.specs.Prelude.{◌≡◌, List, Option, Some, None, IfSome, slice_get, option_map}
use Rattle.std.proofs.Common.{refl, ◌∙◌, ap, subst}
use Rattle.std.proofs.lemmas.Option.{same_Some}
use Rattle.bg_board.specs.declared.players.Player.{Player}
use Rattle.bg_board.specs.declared.players.Player.TheVariants.{X, O}
use Rattle.bg_match.specs.Match.{IsLegalRecord, Log}
use Rattle.bg_match.specs.declared.entries.Entry.{Entry}
use Rattle.bg_wire.specs.Saved.SavedText.{SavedParts}
use Rattle.bg_referee.specs.Referee.{RefereeView}
use Rattle.bg_party.specs.Views.{SeatView, WatcherView}
use Rattle.bg_protocol.specs.declared.roles.Role.{Role}
use Rattle.bg_protocol.specs.declared.roles.Role.TheVariants as roles
use Rattle.bg_protocol.specs.Promises.Agreement.{IsPrefix}
use Rattle.bg_protocol.specs.Promises.Claims.{AreClaimsKept}
use Rattle.bg_protocol.specs.Promises.Headline.{AreAnswered, Headline}
use Rattle.bg_protocol.specs.Protocol.Roles.{role}
use Rattle.bg_protocol.specs.Protocol.Slots.{claim_in}
use Rattle.bg_protocol.specs.Worlds.Starts.{held_of, referee_log, seat_log}
use Rattle.bg_protocol.specs.Worlds.Starts as starts
use Rattle.bg_protocol.specs.Protocol.State.{log_as, seat_in}
use Rattle.bg_protocol.specs.Worlds.Upholds.{HeadlineHeld, Upholds}
use Rattle.bg_protocol.specs.Worlds.Views.{WorldView, seat_core}
use Rattle.bg_protocol.specs.Worlds.WorldState.{CoresMatch, IsLogOf, IsReachedWorld, RefereeMatches, Restorable, SeatMatches}
use Rattle.bg_protocol.specs.Worlds.WorldState.{referee_state, restorable_of, seat_state, protocol_state, watcher_entries}
use Rattle.bg_protocol.proofs.Protocol.Invariant.{of_seat}
use Rattle.bg_protocol.proofs.Protocol.Reached.{reached, headline, agreement, no_more, no_packet_refused, no_slot_refused, saves_survive}
use Rattle.bg_protocol.proofs.Steps.Sides.{get_log, seat_side}

-- the record of a party that is up is the one that the state has
pub held_entries : (r : Role) (w : WorldView) (c : Restorable) (log : Log) → held_of w r ≡ Some log
    → log_as (protocol_state w c) r ≡ Some log.entries
held_entries roles.Referee w c log h = at w.referee h
  where
    at : (r : Option RefereeView) → referee_log r ≡ Some log
        → Some (referee_state r w.referee_keeper.slots c.referee).log ≡ Some log.entries
    at None e = absurd cc
    at (Some r) e = ap (λ (l : Log). Some l.entries) (same_Some r.log log e)
held_entries (roles.Seat X) w c log h = at w.x h
  where
    at : (s : Option SeatView) → seat_log s ≡ Some log
        → Some (seat_state s w.x_keeper.slots c.x).log ≡ Some log.entries
    at None e = absurd cc
    at (Some s) e = ap (λ (l : Log). Some l.entries) (same_Some s.follower.log log e)
held_entries (roles.Seat O) w c log h = at w.o h
  where
    at : (s : Option SeatView) → seat_log s ≡ Some log
        → Some (seat_state s w.o_keeper.slots c.o).log ≡ Some log.entries
    at None e = absurd cc
    at (Some s) e = ap (λ (l : Log). Some l.entries) (same_Some s.follower.log log e)
held_entries (roles.Watcher i) w c log h = get_log w.watchers i ∙ at (slice_get w.watchers i) h
  where
    at : (f : Option WatcherView) → starts.watcher_log f ≡ Some log → option_map watcher_entries f ≡ Some log.entries
    at None e = absurd cc
    at (Some f) e = ap (λ (l : Log). Some l.entries) (same_Some f.follower.log log e)

-- and it is of the world's match
pub held_match : (w : WorldView) (c : Restorable) → CoresMatch w c → (r : Role) (log : Log) → held_of w r ≡ Some log
    → IsLogOf w.id w.terms log
held_match w c fits roles.Referee log h = at w.referee fits.referee.1 h
  where
    at : (r : Option RefereeView) → IfSome r (RefereeMatches w.id w.terms c.referee) → referee_log r ≡ Some log
        → IsLogOf w.id w.terms log
    at None m e = absurd cc
    at (Some r) m e = subst (IsLogOf w.id w.terms) (same_Some r.log log e) m.log
held_match w c fits (roles.Seat q) log h = at (seat_core w q) (seat_side w c q fits).1 h
  where
    at : (s : Option SeatView) → IfSome s (SeatMatches w.id w.terms q (restorable_of c q)) → seat_log s ≡ Some log
        → IsLogOf w.id w.terms log
    at None m e = absurd cc
    at (Some s) m e = subst (IsLogOf w.id w.terms) (same_Some s.follower.log log e) m.log
held_match w c fits (roles.Watcher i) log h = at (slice_get w.watchers i) refl h
  where
    at : (f : Option WatcherView) → slice_get w.watchers i ≡ f → starts.watcher_log f ≡ Some log
        → IsLogOf w.id w.terms log
    at None is e = absurd cc
    at (Some f) is e = subst (IsLogOf w.id w.terms) (same_Some f.follower.log log e) (fits.watchers i f is).log

-- so the headline is said of what is held
headline_held : (w : WorldView) (c : Restorable) → CoresMatch w c → Headline (protocol_state w c)
    → (log : Log) → held_of w roles.Referee ≡ Some log → HeadlineHeld w log
headline_held w c fits headline log up =
    let v = protocol_state w c in
    let same : v.referee.log ≡ log.entries =
    same_Some v.referee.log log.entries (held_entries roles.Referee w c log up) in
    record {
      of_match = λ party held h. held_match w c fits (role party) held h;
      prefix = λ party held h. subst (IsPrefix held.entries) same
          (headline.prefix party held.entries (held_entries (role party) w c held h));
      legal = subst (IsLegalRecord w.terms) same headline.legal;
      answered = subst (λ (l : List Entry). AreAnswered w.terms l w.link.sent) same headline.answered;
    }

-- what the slots of a seat restore is what the state says
restorable_of_seat : (w : WorldView) (c : Restorable) (q : Player)
    → (seat_in (protocol_state w c) q).restorable ≡ restorable_of c q
restorable_of_seat w c X = at_x w.x
  where
    at_x : (s : Option SeatView) → (seat_state s w.x_keeper.slots c.x).restorable ≡ c.x
    at_x None = refl
    at_x (Some s) = refl
restorable_of_seat w c O = at_o w.o
  where
    at_o : (s : Option SeatView) → (seat_state s w.o_keeper.slots c.o).restorable ≡ c.o
    at_o None = refl
    at_o (Some s) = refl

pub upholds : (w : WorldView) → IsReachedWorld w → Upholds w
upholds w world =
    let c = world.restorable in
    let v = protocol_state w c in
    let inv = reached v world.reached in
    record {
      world = world;
      held_headline = headline_held w c world.cores (headline v inv);
      headline = headline v inv;
      agreement = agreement v inv;
      claims = λ q. subst (λ (r : Option SavedParts). AreClaimsKept w.link.sent q (claim_in r))
          (restorable_of_seat w c q) (of_seat v q inv).claims;
      saved_alone = no_more v inv;
      packets = no_packet_refused v inv;
      slots = no_slot_refused v inv;
      survive = saves_survive v inv;
      sent = refl;
      held = λ party log h. held_entries (role party) w c log h;
    }
