-- What a party sends unasked is a row of the protocol.
use Rattle.std.specs.Prelude.{◌≡◌, ℕ, zero, suc, ◌+◌, ◌<◌, ◌≤◌, Bool, true, false, List, [], ◌∷◌, Option, Some, None}
use Rattle.std.specs.Prelude.{MatchOption, option_map, map, length, slice_get, slice_set, if◌then◌else◌}
use Rattle.std.specs.List.{AllByRecursion}
use Rattle.std.proofs.Common.{refl, sym, ◌∙◌, ap, ap₂, subst, arith}
use Rattle.std.proofs.lemmas.Option.{same_Some}
use Rattle.std.proofs.lemmas.List.{length-map}
use Rattle.std.proofs.lemmas.List.Elements.{recursion_from_All}
use Rattle.bg_board.specs.declared.players.Player.{Player}
use Rattle.bg_board.specs.declared.players.Player.TheVariants.{X, O}
use Rattle.bg_match.specs.declared.actions.Action.{Action}
use Rattle.bg_match.specs.declared.entries.Entry.{Entry}
use Rattle.bg_match.specs.Terms.{Terms}
use Rattle.bg_wire.specs.declared.packets.Datagram.{Datagram}
use Rattle.bg_wire.specs.declared.packets.Packet.{Packet}
use Rattle.bg_wire.specs.Packets.PacketText.{IsPacket}
use Rattle.bg_wire.specs.Parties.{party_of}
use Rattle.bg_wire.specs.Saved.SavedText.{SavedParts}
use Rattle.bg_wire.specs.Entries.Codes.{first_watcher, referee}
use Rattle.bg_referee.proofs.Rounds.{few_sent}
use Rattle.bg_referee.specs.Referee.{RefereeView}
use Rattle.bg_referee.specs.Sessions.{after_pushes, pushed}
use Rattle.bg_referee.specs.Takes.{TellsSaved}
use Rattle.bg_party.specs.Claims.{SeatTicks, WatcherTicks, packet_of_seat, ticked, want_of}
use Rattle.bg_party.specs.Retry.{is_due}
use Rattle.bg_party.specs.Views.{SeatView, WatcherView}
use Rattle.bg_protocol.specs.declared.events.Event.TheVariants as events
use Rattle.bg_protocol.specs.declared.events.Outcome.{Outcome}
use Rattle.bg_protocol.specs.declared.events.Outcome.TheVariants as outcomes
use Rattle.bg_protocol.specs.declared.roles.Role.TheVariants as roles
use Rattle.bg_protocol.specs.Protocol.State.{Exists, SeatState, ProtocolState}
use Rattle.bg_protocol.specs.Worlds.WorldState.{CoresMatch, RefereeMatches, Restorable, SeatMatches, SeatSide, restorable_of, seat_state}
use Rattle.bg_protocol.specs.Worlds.WorldState.{protocol_state, watcher_entries}
use Rattle.bg_protocol.specs.Protocol.Datagrams.{Carries}
use Rattle.bg_protocol.specs.Devices.LinkCalls.{FollowerTickCalls, SendCalls, to_referee}
use Rattle.bg_protocol.specs.Protocol.TickStep.{SendsOnTick, TickStep, seat_packet, want_packet}
use Rattle.bg_protocol.specs.Protocol.RefereeTakeStep.{ShowsSaved}
use Rattle.bg_protocol.specs.Worlds.Calls.{NoCalls, TickCalls}
use Rattle.bg_protocol.specs.Worlds.Views.{LinkView, WorldView, parties, seat_core, seat_keeper, with_seat_core}
use Rattle.bg_protocol.specs.Protocol.Frames.{IfUp, NoParty}
use Rattle.bg_protocol.specs.Devices.DeviceCalls.{datagram_of}
use Rattle.bg_protocol.proofs.Steps.DueRows.{at_referee, of_saved, other_sessions}
use Rattle.bg_protocol.proofs.Steps.Hands.{carries}
use Rattle.bg_protocol.proofs.Steps.Sides.{StepsTo, goes_at, seat_side, watchers_match, get_log, set_log}
use Rattle.bg_protocol.proofs.Steps.SendCases.{sends_all, ticks_row}

-- ---- the referee

-- each push to a party that exists is one that the protocol has
may_go : (w : WorldView) (c : Restorable) (r : RefereeView) → RefereeMatches w.id w.terms c.referee r
    → (packets : List (ℕ × Packet)) → AllByRecursion (λ push. TellsSaved r push.1) packets
    → AllByRecursion (λ push. push.0 < parties w → IsPacket push.1
    → Exists (at_referee w c w.link.sent r) push.0
    × ShowsSaved (at_referee w c w.link.sent r) (datagram_of push.0 push.1)) packets
may_go w c r fits [] tells = tt
may_go w c r fits (push ∷ rest) tells = (
  λ low range. (
    omega (low, length-map w.watchers watcher_entries, arith),
    (push.1, carries push.0 push.1 range, of_saved w c r fits push.1 tells.0),
  ),
  may_go w c r fits rest tells.1,
)

pub tick_referee_goes : (w : WorldView) (c : Restorable) (honest : Type 0) → honest → (o : Outcome)
    (new : WorldView)
    → CoresMatch w c
    → TickCalls honest w roles.Referee o new → StepsTo w c (events.Tick 0) o new
tick_referee_goes w c honest is_honest o new fits h = at w.referee fits h
  where
    at : (r : Option RefereeView) → CoresMatch (record w { referee = r }) c
        → TickCalls honest (record w { referee = r }) roles.Referee o new
        → StepsTo (record w { referee = r }) c (events.Tick 0) o new
    at None f k =
        goes_at (record w { referee = None }) c (events.Tick 0) o outcomes.Down new
        (record w { referee = None }) k.0 k.1
        (record { restorable = c; step = (refl, refl); cores = f })
    at (Some r) f k =
        let before = protocol_state (record w { referee = Some r }) c in
        let packets = k.2.0 in
        let ticks = k.2.1 in
        let after = record r { sessions = after_pushes r.sessions r.saved (pushed r.sessions r.saved) } in
        let tells = recursion_from_All (λ push. TellsSaved r push.1) packets ticks.tells in
        let went = sends_all honest is_honest (parties w) (λ d. Exists before d.to × ShowsSaved before d) 0 w.link
        packets o k.0 (may_go w c r f.referee.1 packets tells) k.2.2 in
        goes_at (record w { referee = Some r }) c (events.Tick 0) o o new
        (record w { link = k.0; referee = Some after }) refl
        (k.3 ∙ ap (λ (x : RefereeView). record w { link = k.0; referee = Some x }) ticks.after)
        (record {
          restorable = c;
          step = ticks_row _ (length packets) before (protocol_state (record w { link = k.0; referee = Some after }) c)
              (k.0).sent o 2 (few_sent r k.1 packets ticks) went refl;
          cores = record {
            referee = (f.referee.0, other_sessions w.id w.terms c.referee r after f.referee.1);
            x = f.x;
            o = f.o;
            watchers = f.watchers;
          };
        })

-- ---- a follower, who sends one packet at most

may_send_when : (due : Bool) (many : ℕ) (p : Packet) (may : Datagram → Type 0)
    → (referee < many → IsPacket p → may (datagram_of referee p))
    → AllByRecursion (λ q. q.0 < many → IsPacket q.1 → may (datagram_of q.0 q.1))
    (to_referee (if due then Some p else None))
may_send_when true many p may h = (h, tt)
may_send_when false many p may h = tt

one_at_most : (due : Bool) (p : Packet) → length (to_referee (if due then Some p else None)) ≤ 1
one_at_most true p = omega arith
one_at_most false p = omega arith

-- ---- a seat

-- what a seat's core sends is what the protocol says
seat_sends : (s : SeatView) (claim : Option (ℕ × Action)) (saved : Bool)
    → packet_of_seat (record s { claim = claim; claim_saved = saved }) ≡ seat_packet s.follower.log.id s.follower.log.terms
    (party_of s.player) s.follower.log.entries claim saved
seat_sends s None saved = refl
seat_sends s (Some c) true = refl
seat_sends s (Some c) false = refl

same_packet : (id : ℕ) (terms : Terms) (q : Player) (found : Option SavedParts) (s : SeatView)
    → SeatMatches id terms q found s
    → packet_of_seat s ≡ seat_packet id terms (party_of q) s.follower.log.entries s.claim s.claim_saved
same_packet id terms q found s fits =
    seat_sends s s.claim s.claim_saved
    ∙ ap (λ (m : Terms). seat_packet s.follower.log.id m (party_of s.player) s.follower.log.entries s.claim s.claim_saved)
    fits.log.1
    ∙ ap₂ (λ (i : ℕ) (p : Player). seat_packet i terms
    (party_of p) s.follower.log.entries s.claim s.claim_saved) fits.log.0 fits.sits_for

-- the row of a seat's tick, by the seat's state
abbrev SeatTickRow : ProtocolState → Player → SeatState → Outcome → ProtocolState → Type 0
SeatTickRow v q old o u =
    IfUp old.up v o u (SendsOnTick (λ d. Carries d referee
    (seat_packet v.id v.terms (party_of q) old.log old.claim old.claim_saved)) 1 v o u)

-- a tick later the seat is the same, but for when it sends
ticked_seat : SeatView → SeatView
ticked_seat s = record s { follower = ticked s.follower }

ticked_state : (w : WorldView) (c : Restorable) (n : LinkView) (q : Player) (s : SeatView) → seat_core w q ≡ Some s
    → protocol_state (with_seat_core (record w { link = n }) q (Some (ticked_seat s))) c
    ≡ record (protocol_state w c) { sent = n.sent }
unfolding ticked_seat
ticked_state w c n X s is =
    ap (λ (x : Option SeatView). record (protocol_state w c) { x = seat_state x w.x_keeper.slots c.x; sent = n.sent })
    (sym is)
ticked_state w c n O s is =
    ap (λ (x : Option SeatView). record (protocol_state w c) { o = seat_state x w.o_keeper.slots c.o; sent = n.sent })
    (sym is)

ticked_matches : (w : WorldView) (c : Restorable) (n : LinkView) (q : Player) (s : SeatView) → CoresMatch w c
    → SeatMatches w.id w.terms q (restorable_of c q) s
    → CoresMatch (with_seat_core (record w { link = n }) q (Some (ticked_seat s))) c
unfolding ticked_seat
ticked_matches w c n X s fits m = record {
  referee = fits.referee;
  x = (fits.x.0, record { sits_for = m.sits_for; log = m.log; next = m.next });
  o = fits.o;
  watchers = fits.watchers;
}
ticked_matches w c n O s fits m = record {
  referee = fits.referee;
  x = fits.x;
  o = (fits.o.0, record { sits_for = m.sits_for; log = m.log; next = m.next });
  watchers = fits.watchers;
}

pub tick_seat_goes : (w : WorldView) (c : Restorable) (honest : Type 0) → honest
    → (q : Player) (o : Outcome) (new : WorldView) → CoresMatch w c → TickCalls honest w (roles.Seat q) o new
    → TickStep (protocol_state w c) (roles.Seat q) o (protocol_state new c) × CoresMatch new c
unfolding ticked_seat
tick_seat_goes w c honest is_honest q o new fits h = at (seat_core w q) (seat_side w c q fits) refl h
  where
    lift : (p : Player) (u : ProtocolState)
        → SeatTickRow (protocol_state w c) p (seat_state (seat_core w p) (seat_keeper w p).slots (restorable_of c p)) o u
        → TickStep (protocol_state w c) (roles.Seat p) o u
    lift X u k = k
    lift O u k = k

    at : (s : Option SeatView) → SeatSide w.id w.terms q s (seat_keeper w q) (restorable_of c q) → seat_core w q ≡ s
        → MatchOption s (NoCalls outcomes.Down w o new)
        (λ s. (n : LinkView) × (s' : SeatView) × FollowerTickCalls SeatTicks honest (parties w) w.link s o n s'
        × (new ≡ with_seat_core (record w { link = n }) q (Some s')))
        → TickStep (protocol_state w c) (roles.Seat q) o (protocol_state new c) × CoresMatch new c
    at None side is k = (
      lift q (protocol_state new c) (subst (λ (s : Option SeatView). SeatTickRow (protocol_state w c) q
          (seat_state s (seat_keeper w q).slots (restorable_of c q)) o (protocol_state new c)) (sym is)
          (k.0, ap (λ (x : WorldView). protocol_state x c) k.1)),
      subst (λ (x : WorldView). CoresMatch x c) (sym k.1) fits,
    )
    at (Some s) side is k =
        let p = seat_packet w.id w.terms (party_of q) s.follower.log.entries s.claim s.claim_saved in
        let due = is_due s.follower.retry in
        let may : Datagram → Type 0 = λ d. Carries d referee p in
        let may_go : referee < parties w → IsPacket (packet_of_seat s) → Carries
        (datagram_of referee (packet_of_seat s)) referee p =
        λ low range. subst (λ (x : Packet). Carries (datagram_of referee (packet_of_seat s)) referee x)
        (same_packet w.id w.terms q (restorable_of c q) s side.1)
        (carries referee (packet_of_seat s) range) in
        let ticks = k.2.1 in
        let one = subst (λ (x : Option Packet). SendCalls honest (parties w) 0 w.link
        (to_referee x) o k.0) ticks.packet k.2.2 in
        let went = sends_all honest is_honest (parties w) may 0 w.link
        (to_referee (if due then Some (packet_of_seat s) else None)) o k.0
        (may_send_when due (parties w) (packet_of_seat s) may may_go) one in
        let same : new ≡ with_seat_core (record w { link = k.0 }) q (Some (ticked_seat s)) =
        k.3 ∙ ap (λ (x : SeatView). with_seat_core (record w { link = k.0 }) q (Some x)) ticks.after in
        let row = ticks_row may (length (to_referee (if due then Some (packet_of_seat s) else None))) (protocol_state w c)
        (protocol_state new c) (k.0).sent o 1 (one_at_most due (packet_of_seat s)) went
        (ap (λ (x : WorldView). protocol_state x c) same ∙ ticked_state w c k.0 q s is) in (
          lift q (protocol_state new c) (subst (λ (x : Option SeatView). SeatTickRow (protocol_state w c) q
              (seat_state x (seat_keeper w q).slots (restorable_of c q)) o (protocol_state new c)) (sym is) row),
          subst (λ (x : WorldView). CoresMatch x c) (sym same) (ticked_matches w c k.0 q s fits side.1),
        )

-- ---- a watcher

-- what stands in a place, put there again, changes nothing
set_same : (xs : List WatcherView) (i : ℕ) (f : WatcherView) → slice_get xs i ≡ Some f → slice_set xs i f ≡ xs
set_same [] i f e = refl
set_same (x ∷ xs) zero f e = let same : x ≡ f = same_Some x f e in ap (λ (y : WatcherView). y ∷ xs) (sym same)
set_same (x ∷ xs) (suc i) f e = ap (λ (l : List WatcherView). x ∷ l) (set_same xs i f e)

-- a tick later the watcher is the same, but for when it sends
ticked_watcher : WatcherView → WatcherView
ticked_watcher f = record f { follower = ticked f.follower }

ticked_logs : (watchers : List WatcherView) (i : ℕ) (f : WatcherView) → slice_get watchers i ≡ Some f
    → map watcher_entries (slice_set watchers i (ticked_watcher f)) ≡ map watcher_entries watchers
unfolding ticked_watcher
ticked_logs watchers i f is =
    set_log watchers i (ticked_watcher f) ∙ sym (set_log watchers i f)
    ∙ ap (map watcher_entries) (set_same watchers i f is)

pub tick_watcher_goes : (w : WorldView) (c : Restorable) (honest : Type 0) → honest
    → (i : ℕ) (o : Outcome) (new : WorldView) → CoresMatch w c → TickCalls honest w (roles.Watcher i) o new
    → TickStep (protocol_state w c) (roles.Watcher i) o (protocol_state new c) × CoresMatch new c
unfolding ticked_watcher
tick_watcher_goes w c honest is_honest i o new fits h = at (slice_get w.watchers i) refl h
  where
    lift : (f : Option WatcherView) → slice_get w.watchers i ≡ f
        → MatchOption (option_map watcher_entries f) (NoParty (protocol_state w c) o (protocol_state new c))
        (λ log. SendsOnTick (λ d. Carries d referee (want_packet w.id w.terms (first_watcher + i) log)) 1 (protocol_state w c) o
        (protocol_state new c))
        → TickStep (protocol_state w c) (roles.Watcher i) o (protocol_state new c)
    lift f is k =
        subst (λ (x : Option (List Entry)). MatchOption x (NoParty (protocol_state w c) o (protocol_state new c))
        (λ log. SendsOnTick (λ d. Carries d referee (want_packet w.id w.terms (first_watcher + i) log)) 1 (protocol_state w c) o
        (protocol_state new c)))
        (sym (get_log w.watchers i ∙ ap (option_map watcher_entries) is)) k

    at : (f : Option WatcherView) → slice_get w.watchers i ≡ f
        → MatchOption f (NoCalls outcomes.NoSuchParty w o new)
        (λ f. (n : LinkView) × (f' : WatcherView)
        × FollowerTickCalls WatcherTicks honest (parties w) w.link f o n f'
        × (new ≡ record w { link = n; watchers = slice_set w.watchers i f' }))
        → TickStep (protocol_state w c) (roles.Watcher i) o (protocol_state new c) × CoresMatch new c
    at None is k = (
      lift None is (k.0, ap (λ (x : WorldView). protocol_state x c) k.1),
      subst (λ (x : WorldView). CoresMatch x c) (sym k.1) fits,
    )
    at (Some f) is k =
        let fit = fits.watchers i f is in
        let log = f.follower.log in
        let p = want_packet w.id w.terms (first_watcher + i) log.entries in
        let may : Datagram → Type 0 = λ d. Carries d referee p in
        let same_packet : want_of f.party log ≡ p =
        ap (λ (m : Terms). want_packet log.id m f.party log.entries) fit.log.1
        ∙ ap₂ (λ (a b : ℕ). want_packet a w.terms b log.entries) fit.log.0 fit.party in
        let may_go : referee < parties w → IsPacket (want_of f.party log) → Carries
        (datagram_of referee (want_of f.party log)) referee p =
        λ low range. subst (λ (x : Packet). Carries
        (datagram_of referee (want_of f.party log)) referee x) same_packet
        (carries referee (want_of f.party log) range) in
        let ticks = k.2.1 in
        let due = is_due f.follower.retry in
        let one = subst (λ (x : Option Packet). SendCalls honest (parties w) 0 w.link
        (to_referee x) o k.0) ticks.packet k.2.2 in
        let went = sends_all honest is_honest (parties w) may 0 w.link
        (to_referee (if due then Some (want_of f.party log) else None)) o k.0
        (may_send_when due (parties w) (want_of f.party log) may may_go) one in
        let same : new ≡ record w { link = k.0; watchers = slice_set w.watchers i (ticked_watcher f) } =
        k.3 ∙ ap (λ (x : WatcherView). record w { link = k.0; watchers = slice_set w.watchers i x }) ticks.after in
        let row = ticks_row may (length (to_referee (if due then Some (want_of f.party log) else None))) (protocol_state w c)
        (protocol_state new c) (k.0).sent o 1 (one_at_most due (want_of f.party log)) went
        (ap (λ (x : WorldView). protocol_state x c) same
        ∙ ap (λ (l : List (List Entry)). record (protocol_state w c) { watchers = l; sent = (k.0).sent })
        (ticked_logs w.watchers i f is)) in (
          lift (Some f) is row,
          subst (λ (x : WorldView). CoresMatch x c) (sym same) (record {
            referee = fits.referee;
            x = fits.x;
            o = fits.o;
            watchers = watchers_match w.id w.terms w.watchers i (ticked_watcher f) fits.watchers
                (record { party = fit.party; log = fit.log });
          }),
        )
