-- No event of a reached world over honest devices comes to the refusal of a packet or a slot.
use Rattle.std.specs.Prelude.{◌≡◌, ℕ, zero, suc, ◌<◌, Option, Some, None, Result, Ok, Err, MatchOption, IfSome, slice_get, slice_set, option_map, All, List, [], ◌∷◌}
use Rattle.std.proofs.Common.{refl, sym, ◌∙◌, ap, arith}
use Rattle.std.proofs.lemmas.List.Elements.{All-cons, All-nil}
use Rattle.bg_board.specs.declared.players.Player.{Player}
use Rattle.bg_board.specs.declared.players.Player.TheVariants.{X, O}
use Rattle.bg_match.specs.declared.actions.Action.{Action}
use Rattle.bg_wire.specs.Entries.Codes.{referee}
use Rattle.bg_wire.specs.Parties.{party_of}
use Rattle.bg_wire.specs.declared.packets.Packet.{Packet}
use Rattle.bg_referee.specs.Dues.{RefereeDues}
use Rattle.bg_referee.specs.Referee.{RefereeView, fresh_referee, referee_after_save, resumed_referee, with_sessions_of}
use Rattle.bg_referee.specs.declared.outcomes.DueFault.{DueFault}
use Rattle.bg_party.specs.Claims.{SeatChooses, SeatTicks, WatcherTicks}
use Rattle.bg_party.specs.Takes.{FollowerTakes}
use Rattle.bg_party.specs.Views.{FollowerView, SeatView, WatcherView, fresh_seat, fresh_watcher, resumed_seat, seat_after_save}
use Rattle.bg_party.specs.declared.outcomes.ChooseFault.{ChooseFault}
use Rattle.bg_party.specs.declared.outcomes.Learned.{Learned}
use Rattle.bg_protocol.specs.declared.events.Event.{Event}
use Rattle.bg_protocol.specs.declared.events.Event.TheVariants as events
use Rattle.bg_protocol.specs.declared.events.Outcome.{Outcome}
use Rattle.bg_protocol.specs.declared.events.Outcome.TheVariants as outcomes
use Rattle.bg_protocol.specs.declared.roles.Role.TheVariants as roles
use Rattle.bg_protocol.specs.Worlds.Calls.{Calls, ChooseCalls, DueCalls, NoCalls, RestartCalls, SaveCalls, SeatTakes, TakeCalls, TickCalls, WatcherTakes, referee_parts, seat_parts}
use Rattle.bg_protocol.specs.Devices.DeviceCalls.{Receives}
use Rattle.bg_protocol.specs.Devices.LinkCalls.{FollowerHandles, FollowerTakeCalls, FollowerTickCalls, RefereeHandles, RefereeTakeCalls, RefereeTickCalls, to_referee}
use Rattle.bg_protocol.specs.Worlds.NotRefused.{IsNotRefused}
use Rattle.bg_protocol.specs.Protocol.Roles.{role}
use Rattle.bg_protocol.specs.Protocol.State.{log_of}
use Rattle.bg_protocol.specs.Worlds.Views.{LinkView, WorldView, parties, seat_core, seat_keeper, with_seat_core}
use Rattle.bg_protocol.specs.Worlds.WorldRuns.{CallsAll}
use Rattle.bg_protocol.specs.Worlds.WorldState.{CoresMatch, IsLogOf, IsReachedWorld, RefereeMatches, Restorable, SeatSide, referee_state, restorable_of, seat_state, protocol_state, watcher_entries}
use Rattle.bg_protocol.proofs.Protocol.Invariant.{Inv}
use Rattle.bg_protocol.proofs.Protocol.Reached.{reached, no_packet_refused}
use Rattle.bg_protocol.proofs.Steps.Hands.{empty_hand}
use Rattle.bg_protocol.proofs.Steps.Sides.{seat_side, slots_of_referee, slots_of_seat, get_log}
use Rattle.bg_protocol.proofs.Protocol.RefereeRefusals as at_referee
use Rattle.bg_protocol.proofs.Protocol.FollowerRefusals as at_follower
use Rattle.bg_protocol.proofs.ReachedWorlds.FineOutcomes.{named, no_hand, sends_all, saves_all, restarts_all, answers_all}
use Rattle.bg_protocol.proofs.Steps.Goes.{goes}

-- ---- every event

module _ (w : WorldView) (c : Restorable) (link_honest keepers_honest : Type 0) (link : link_honest)
    (keepers : keepers_honest)
    (fits : CoresMatch w c) (inv : Inv (protocol_state w c)) where
  -- what a core that follows makes of what is in hand
  hand_all : {C : Type 0} (CoreTakes : C → Packet → Learned → C → Type 0) (follower : C → FollowerView)
      → ((s : C) (p : Packet) (l : Learned) (s' : C) → CoreTakes s p l s' → FollowerTakes (follower s) p l
      (follower s'))
      → (party pick : ℕ) (n : LinkView) (s s' : C) (o : Outcome) → 0 < party
      → log_of (protocol_state w c) party ≡ Some (follower s).log.entries
      → IsLogOf w.id w.terms (follower s).log → FollowerTakeCalls CoreTakes link_honest party w.link s pick o n s'
      → IsNotRefused o
  hand_all {C} CoreTakes follower follows party pick n s s' o above some of h = at h.0 h.1 h.2
    where
      at : (hand : Result Packet Outcome) → Receives link_honest w.link party pick hand n
          → FollowerHandles CoreTakes s hand o s' → IsNotRefused o
      at (Err x) receives k = named o x k.0 (no_hand x (empty_hand n.taken x receives.is_hand))
      at (Ok p) receives k =
          let t = follows s p k.0 s' k.1 in
          let fine = at_follower.not_refused (protocol_state w c) (no_packet_refused (protocol_state w c) inv) party
          (follower s) above some of p k.0 (receives.was_sent link) t.learns in
          named o (outcomes.Learned k.0) k.2 fine

  seat_take : (q : Player) (pick word : ℕ) (o : Outcome) (new : WorldView)
      → TakeCalls link_honest w (roles.Seat q) (party_of q) pick word o new → IsNotRefused o
  seat_take q pick word o new h = at (seat_core w q) refl (seat_side w c q fits) h
    where
      number : (p : Player) → 0 < party_of p
      number X = omega arith
      number O = omega arith

      log : (p : Player) (s : SeatView) → seat_core w p ≡ Some s
          → log_of (protocol_state w c) (party_of p) ≡ Some s.follower.log.entries
      log X s e = ap (λ (x : Option SeatView). Some (seat_state x w.x_keeper.slots c.x).log) e
      log O s e = ap (λ (x : Option SeatView). Some (seat_state x w.o_keeper.slots c.o).log) e

      at : (s : Option SeatView) → seat_core w q ≡ s → SeatSide w.id w.terms q s (seat_keeper w q)
          (restorable_of c q)
          → MatchOption s (NoCalls outcomes.Down w o new)
          (λ s. (n : LinkView) × (s' : SeatView)
          × FollowerTakeCalls SeatTakes link_honest (party_of q) w.link s pick o n s'
          × (new ≡ with_seat_core (record w { link = n }) q (Some s')))
          → IsNotRefused o
      at None is side k = named o outcomes.Down k.0 tt
      at (Some s) is side k =
          hand_all SeatTakes (λ x. x.follower) (λ x p l y t. t.takes) (party_of q) pick k.0 s k.1 o (number q)
          (log q s is) side.1.log k.2

  watcher_take : (i pick word : ℕ) (o : Outcome) (new : WorldView)
      → TakeCalls link_honest w (roles.Watcher i) (suc (suc (suc i))) pick word o new → IsNotRefused o
  watcher_take i pick word o new h = at (slice_get w.watchers i) refl h
    where
      at : (f : Option WatcherView) → slice_get w.watchers i ≡ f
          → MatchOption f (NoCalls outcomes.NoSuchParty w o new)
          (λ f. (n : LinkView) × (f' : WatcherView)
          × FollowerTakeCalls WatcherTakes link_honest (suc (suc (suc i))) w.link f pick o n f'
          × (new ≡ record w { link = n; watchers = slice_set w.watchers i f' }))
          → IsNotRefused o
      at None is k = named o outcomes.NoSuchParty k.0 tt
      at (Some f) is k =
          hand_all WatcherTakes (λ x. x.follower) (λ x p l y t. t.takes) (suc (suc (suc i))) pick k.0 f k.1 o
          (omega arith)
          (get_log w.watchers i ∙ ap (option_map watcher_entries) is) (fits.watchers i f is).log k.2

  take_all : (party pick word : ℕ) (o : Outcome) (new : WorldView)
      → TakeCalls link_honest w (role party) party pick word o new → IsNotRefused o
  take_all zero pick word o new h = at w.referee refl fits.referee.1 h
    where
      at : (r : Option RefereeView) → w.referee ≡ r → IfSome r (RefereeMatches w.id w.terms c.referee)
          → MatchOption r (NoCalls outcomes.Down w o new)
          (λ r. (n : LinkView) × (r' : RefereeView)
          × RefereeTakeCalls link_honest (parties w) w.link r pick word o n r'
          × (new ≡ record w { link = n; referee = Some r' }))
          → IsNotRefused o
      at None is fit k = named o outcomes.Down k.0 tt
      at (Some r) is fit k = in_hand k.2.0 k.2.1 k.2.2 k.2.3
        where
          entries : r.log.entries ≡ (referee_state w.referee w.referee_keeper.slots c.referee).log
          entries = ap (λ (x : Option RefereeView). (referee_state x w.referee_keeper.slots c.referee).log) (sym is)

          saved : r.saved ≡ (referee_state w.referee w.referee_keeper.slots c.referee).saved
          saved = ap (λ (x : Option RefereeView). (referee_state x w.referee_keeper.slots c.referee).saved) (sym is)

          in_hand : (hand : Result Packet Outcome) (mid : LinkView)
              → Receives link_honest w.link referee pick hand mid
              → RefereeHandles link_honest (parties w) mid r word hand o k.0 k.1 → IsNotRefused o
          in_hand (Err x) mid receives m = named o x m.0 (no_hand x (empty_hand mid.taken x receives.is_hand))
          in_hand (Ok p) mid receives m =
              let t = m.1 in
              let fine = at_referee.not_refused (protocol_state w c)
              (no_packet_refused (protocol_state w c) inv) r (with_sessions_of r k.1) fit.log entries saved word p m.0
              (receives.was_sent link) t.takes in
              answers_all link_honest (parties w) mid k.0 m.0 o fine m.2
  take_all (suc zero) pick word o new h = seat_take X pick word o new h
  take_all (suc (suc zero)) pick word o new h = seat_take O pick word o new h
  take_all (suc (suc (suc i))) pick word o new h = watcher_take i pick word o new h

  save_all : (party : ℕ) (o : Outcome) (new : WorldView) → SaveCalls keepers_honest w (role party) o new
      → IsNotRefused o
  save_all zero o new h =
      saves_all referee_parts referee_after_save keepers_honest w.referee_keeper w.referee o h.0 h.1 h.2
  save_all (suc zero) o new h = saves_all seat_parts seat_after_save keepers_honest w.x_keeper w.x o h.0 h.1 h.2
  save_all (suc (suc zero)) o new h = saves_all seat_parts seat_after_save keepers_honest w.o_keeper w.o o h.0 h.1 h.2
  save_all (suc (suc (suc i))) o new h = named o outcomes.NoSuchParty h.0 tt

  seat_tick : (q : Player) (o : Outcome) (new : WorldView) → TickCalls link_honest w (roles.Seat q) o new
      → IsNotRefused o
  seat_tick q o new h = at (seat_core w q) h
    where
      at : (s : Option SeatView) → MatchOption s (NoCalls outcomes.Down w o new)
          (λ s. (n : LinkView) × (s' : SeatView)
          × FollowerTickCalls SeatTicks link_honest (parties w) w.link s o n s'
          × (new ≡ with_seat_core (record w { link = n }) q (Some s')))
          → IsNotRefused o
      at None k = named o outcomes.Down k.0 tt
      at (Some s) k = sends_all link_honest (parties w) 0 w.link (to_referee k.2.0) o k.0 k.2.2

  tick_all : (party : ℕ) (o : Outcome) (new : WorldView) → TickCalls link_honest w
      (role party) o new → IsNotRefused o
  tick_all zero o new h = at w.referee h
    where
      at : (r : Option RefereeView) → MatchOption r (NoCalls outcomes.Down w o new)
          (λ r. (n : LinkView) × (r' : RefereeView) × RefereeTickCalls link_honest (parties w) w.link r o n r'
          × (new ≡ record w { link = n; referee = Some r' }))
          → IsNotRefused o
      at None k = named o outcomes.Down k.0 tt
      at (Some r) k = sends_all link_honest (parties w) 0 w.link k.2.0 o k.0 k.2.2
  tick_all (suc zero) o new h = seat_tick X o new h
  tick_all (suc (suc zero)) o new h = seat_tick O o new h
  tick_all (suc (suc (suc i))) o new h = at (slice_get w.watchers i) h
    where
      at : (f : Option WatcherView) → MatchOption f (NoCalls outcomes.NoSuchParty w o new)
          (λ f. (n : LinkView) × (f' : WatcherView)
          × FollowerTickCalls WatcherTicks link_honest (parties w) w.link f o n f'
          × (new ≡ record w { link = n; watchers = slice_set w.watchers i f' }))
          → IsNotRefused o
      at None k = named o outcomes.NoSuchParty k.0 tt
      at (Some f) k = sends_all link_honest (parties w) 0 w.link (to_referee k.2.0) o k.0 k.2.2

  restart_all : (party : ℕ) (o : Outcome) (new : WorldView) → RestartCalls keepers_honest w (role party) party o new
      → IsNotRefused o
  restart_all zero o new h =
      restarts_all resumed_referee (fresh_referee w.id w.terms) keepers_honest keepers w.id w.terms referee w.referee_keeper h.0 c.referee
      (slots_of_referee w c inv) o h.1 h.2
  restart_all (suc zero) o new h =
      restarts_all resumed_seat (fresh_seat X w.id w.terms) keepers_honest keepers w.id w.terms
      (party_of X) w.x_keeper h.0 c.x (slots_of_seat w c X inv) o h.1 h.2
  restart_all (suc (suc zero)) o new h =
      restarts_all resumed_seat (fresh_seat O w.id w.terms) keepers_honest keepers w.id w.terms
      (party_of O) w.o_keeper h.0 c.o (slots_of_seat w c O inv) o h.1 h.2
  restart_all (suc (suc (suc i))) o new h = at (slice_get w.watchers i) h
    where
      at : (f : Option WatcherView) → MatchOption f (NoCalls outcomes.NoSuchParty w o new)
          (λ f. (o ≡ outcomes.Restarted) × (new ≡ record w {
            watchers = slice_set w.watchers i
                (fresh_watcher (suc (suc (suc i))) w.id w.terms);
          }))
          → IsNotRefused o
      at None k = named o outcomes.NoSuchParty k.0 tt
      at (Some f) k = named o outcomes.Restarted k.0 tt

  due_all : (word : ℕ) (o : Outcome) (new : WorldView) → DueCalls w word o new → IsNotRefused o
  due_all word o new h = at w.referee h
    where
      at : (r : Option RefereeView) → MatchOption r (NoCalls outcomes.Down w o new)
          (λ r. (answer : Result ℕ DueFault) × (r' : RefereeView) × RefereeDues r word answer r'
          × (o ≡ outcomes.Due answer) × (new ≡ record w { referee = Some r' }))
          → IsNotRefused o
      at None k = named o outcomes.Down k.0 tt
      at (Some r) k = named o (outcomes.Due k.0) k.3 tt

  choose_all : (q : Player) (a : Action) (o : Outcome) (new : WorldView) → ChooseCalls w q a o new → IsNotRefused o
  choose_all q a o new h = at (seat_core w q) h
    where
      at : (s : Option SeatView) → MatchOption s (NoCalls outcomes.Down w o new)
          (λ s. (answer : Result ℕ ChooseFault) × (s' : SeatView) × SeatChooses s a answer s'
          × (o ≡ outcomes.Chose answer) × (new ≡ with_seat_core w q (Some s')))
          → IsNotRefused o
      at None k = named o outcomes.Down k.0 tt
      at (Some s) k = named o (outcomes.Chose k.0) k.3 tt

  event_all : (e : Event) (o : Outcome) (new : WorldView) → Calls link_honest keepers_honest w e o new
      → IsNotRefused o
  event_all (events.Due word) o new h = due_all word o new h
  event_all (events.Take party pick word) o new h = take_all party pick word o new h
  event_all (events.Choose q a) o new h = choose_all q a o new h
  event_all (events.Save party) o new h = save_all party o new h
  event_all (events.Tick party) o new h = tick_all party o new h
  event_all (events.Restart party) o new h = restart_all party o new h

pub never_refused : (link_honest keepers_honest : Type 0) (old : WorldView) (event : Event) (result : Outcome)
    (new : WorldView)
    → Calls link_honest keepers_honest old event result new → link_honest → keepers_honest → IsReachedWorld old
    → IsNotRefused result
never_refused link_honest keepers_honest old event result new calls link keepers before =
    event_all old before.restorable link_honest keepers_honest link keepers before.cores
    (reached (protocol_state old before.restorable) before.reached) event result new calls

-- nor does any event of a run from there
pub none_refused : (link_honest keepers_honest : Type 0) (old : WorldView) (events : List Event)
    (outcomes : List Outcome) (new : WorldView) → CallsAll link_honest keepers_honest old events outcomes new
    → link_honest → keepers_honest → IsReachedWorld old → All IsNotRefused outcomes
none_refused link_honest keepers_honest old [] [] new calls link keepers before = All-nil IsNotRefused
none_refused link_honest keepers_honest old [] (o ∷ os) new calls link keepers before = absurd calls
none_refused link_honest keepers_honest old (e ∷ es) [] new calls link keepers before = absurd calls
none_refused link_honest keepers_honest old (e ∷ es) (o ∷ os) new calls link keepers before =
    let next = goes link_honest keepers_honest old e o calls.0 calls.1 link keepers before in
    All-cons IsNotRefused o os (never_refused link_honest keepers_honest old e o calls.0 calls.1 link keepers before)
    (none_refused link_honest keepers_honest calls.0 es os new calls.2 link keepers next.0)
