-- The next life of a match begins as a restart of all its parties.
use Rattle.std.specs.Prelude.{◌≡◌, List, [], ◌∷◌, ◌++◌, Option, MatchOption, length, slice_get, slice_set, ⊤}
use Rattle.std.proofs.Common.{refl, sym, ap, ap₂, subst, ◌∙◌, arith}
use Rattle.std.proofs.lemmas.List.{append-nil}
use Rattle.bg_board.specs.declared.players.Player.TheVariants.{X, O}
use Rattle.bg_referee.specs.Referee.{RefereeView}
use Rattle.bg_party.specs.Views.{SeatView, WatcherView, fresh_watcher}
use Rattle.bg_wire.specs.declared.packets.Datagram.{Datagram}
use Rattle.bg_protocol.specs.Worlds.Calls.{NoCalls, RestartCalls}
use Rattle.bg_protocol.specs.Worlds.Interleavings.{AreSeenAs, over_devices}
use Rattle.bg_protocol.specs.Worlds.Starts.{fresh_world}
use Rattle.bg_protocol.specs.Worlds.Views.{KeeperView, LinkView, WorldView}
use Rattle.bg_protocol.specs.Worlds.WorldRuns.{CallsAll}
use Rattle.bg_protocol.specs.Worlds.WorldState.{IsReachedWorld}
use Rattle.bg_protocol.specs.declared.events.Event.{Event}
use Rattle.bg_protocol.specs.declared.events.Event.TheVariants as events
use Rattle.bg_protocol.specs.declared.events.Outcome.{Outcome}
use Rattle.bg_protocol.specs.declared.events.Outcome.TheVariants as outcomes
use Rattle.bg_protocol.specs.declared.roles.Role.TheVariants as roles
use Rattle.bg_protocol.proofs.ReachedWorlds.Interleaved.{interleaved}
use Rattle.bg_protocol.proofs.Steps.Goes.{goes}
use Rattle.bg_hosted.specs.HostedMatches.{setup_of, teller}
use Rattle.bg_hosted.specs.Lives.{Begins, BeginsReached, GoesOnReached, HaveItsSlots, in_later_life}
use Rattle.bg_hosted.specs.QueueLinks.{unused_queue}
use Rattle.bg_hosted.proofs.Lives.{calls_too}

pub goes_on_reached : GoesOnReached
goes_on_reached before old event outcome new calls reached =
    (goes ⊤ ⊤ (in_later_life before old) event outcome (in_later_life before new) (calls_too before old event outcome new calls) tt tt reached).0

many_reached : (before : List Datagram) (events : List Event) (outcomes : List Outcome) (old new : WorldView)
    → CallsAll (Unit {0}) ⊤ old events outcomes new → IsReachedWorld (in_later_life before old) → IsReachedWorld (in_later_life before new)
many_reached before [] [] old new same reached = subst (λ (w : WorldView). IsReachedWorld (in_later_life before w)) (sym same) reached
many_reached before [] (o ∷ outcomes) old new none reached = absurd none
many_reached before (e ∷ events) [] old new none reached = absurd none
many_reached before (e ∷ events) (o ∷ outcomes) old new calls reached =
    many_reached before events outcomes calls.0 new calls.2 (goes_on_reached before old e o calls.0 calls.1 reached)

module _ (w : WorldView) (referee_keeper x_keeper o_keeper : KeeperView) (slots : HaveItsSlots w referee_keeper x_keeper o_keeper) (reached : IsReachedWorld w) where
  -- the devices of the next life
  abbrev link : LinkView
  link = record unused_queue { sent = w.link.sent ++ [] }

  abbrev over : WorldView
  over = over_devices w link referee_keeper x_keeper o_keeper

  are_seen : AreSeenAs w link referee_keeper x_keeper o_keeper
  are_seen = record {
    datagrams = append-nil w.link.sent;
    referee_slots = slots.referee_slots;
    x_slots = slots.x_slots;
    o_slots = slots.o_slots;
  }

  -- a world of the next life, beside the cores of the one before
  abbrev mixed : Option RefereeView → Option SeatView → Option SeatView → WorldView → WorldView
  mixed r x o v = record (in_later_life w.link.sent v) { referee = r; x = x; o = o }

  abbrev start : WorldView
  start = fresh_world (setup_of w.id w.terms) unused_queue referee_keeper x_keeper o_keeper

  -- the watcher restarts
  watched : (watchers : List WatcherView) → length watchers ≡ 1 → MatchOption (slice_get watchers 0) (NoCalls outcomes.NoSuchParty over outcomes.Restarted (mixed w.referee w.x w.o start))
      (λ core. (outcomes.Restarted ≡ outcomes.Restarted) × (mixed w.referee w.x w.o start ≡ record over { watchers = slice_set watchers 0 (fresh_watcher teller w.id w.terms) }))
  watched [] one = absurd (omega arith)
  watched (core ∷ []) one = (refl, refl)
  watched (core ∷ other ∷ more) one = absurd (omega arith)

  first : length w.watchers ≡ 1 → IsReachedWorld (mixed w.referee w.x w.o start)
  first one =
      (interleaved w (events.Restart teller ∷ []) (outcomes.Restarted ∷ []) (mixed w.referee w.x w.o start)
      (link, referee_keeper, x_keeper, o_keeper, mixed w.referee w.x w.o start, are_seen, watched w.watchers one, refl) reached).0

  -- the parties that save restart
  referee_restarts : (r : Option RefereeView) (x o : Option SeatView) (v : WorldView) (result : Outcome) (u : WorldView) → RestartCalls ⊤ v roles.Referee 0 result u → IsReachedWorld (mixed r x o v) → IsReachedWorld (mixed u.referee x o u)
  referee_restarts r x o v result u h before =
      (goes ⊤ ⊤ (mixed r x o v) (events.Restart 0) result (mixed u.referee x o u) (h.0, h.1, h.2, ap (λ (z : WorldView). mixed z.referee x o z) h.3) tt tt before).0

  x_restarts : (r : Option RefereeView) (x o : Option SeatView) (v : WorldView) (result : Outcome) (u : WorldView) → RestartCalls ⊤ v (roles.Seat X) 1 result u → IsReachedWorld (mixed r x o v) → IsReachedWorld (mixed r u.x o u)
  x_restarts r x o v result u h before =
      (goes ⊤ ⊤ (mixed r x o v) (events.Restart 1) result (mixed r u.x o u) (h.0, h.1, h.2, ap (λ (z : WorldView). mixed r z.x o z) h.3) tt tt before).0

  o_restarts : (r : Option RefereeView) (x o : Option SeatView) (v : WorldView) (result : Outcome) (u : WorldView) → RestartCalls ⊤ v (roles.Seat O) 2 result u → IsReachedWorld (mixed r x o v) → IsReachedWorld (mixed r x u.o u)
  o_restarts r x o v result u h before =
      (goes ⊤ ⊤ (mixed r x o v) (events.Restart 2) result (mixed r x u.o u) (h.0, h.1, h.2, ap (λ (z : WorldView). mixed r x z.o z) h.3) tt tt before).0

  -- and leave the others alone
  x_leaves : (v : WorldView) (result : Outcome) (u : WorldView) → RestartCalls ⊤ v (roles.Seat X) 1 result u → u.referee ≡ v.referee
  x_leaves v result u h = ap (λ (z : WorldView). z.referee) h.3

  o_leaves : (v : WorldView) (result : Outcome) (u : WorldView) → RestartCalls ⊤ v (roles.Seat O) 2 result u → (u.referee ≡ v.referee) × (u.x ≡ v.x)
  o_leaves v result u h = (ap (λ (z : WorldView). z.referee) h.3, ap (λ (z : WorldView). z.x) h.3)

  all_restarted : length w.watchers ≡ 1 → (new : WorldView) (b : Begins ⊤ start new) → IsReachedWorld (in_later_life w.link.sent b.with_all)
  all_restarted one new b =
      let after_referee = referee_restarts w.referee w.x w.o start b.referee_restarts.0 b.with_referee b.referee_restarts.1 (first one) in
      let after_x = x_restarts b.with_referee.referee w.x w.o b.with_referee b.x_restarts.0 b.with_x b.x_restarts.1 after_referee in
      let after_o = o_restarts b.with_referee.referee b.with_x.x w.o b.with_x b.o_restarts.0 b.with_all b.o_restarts.1 after_x in
      let stays = o_leaves b.with_x b.o_restarts.0 b.with_all b.o_restarts.1 in
      let referee_stays = stays.0 ∙ x_leaves b.with_referee b.x_restarts.0 b.with_x b.x_restarts.1 in
      subst IsReachedWorld (ap₂ (λ (r : Option RefereeView) (x : Option SeatView). mixed r x b.with_all.o b.with_all) (sym referee_stays) (sym stays.1)) after_o

pub begins_reached : BeginsReached
begins_reached w referee_keeper x_keeper o_keeper new reached one slots b =
    many_reached w.link.sent b.goes_on.events b.goes_on.outcomes b.with_all new b.goes_on.calls (all_restarted w referee_keeper x_keeper o_keeper slots reached one new b)
