-- A run of processes is a run of the protocol.
use Rattle.std.specs.Prelude.{◌≡◌, ◌+◌, List, [], ◌∷◌, IfSome, ⊤}
use Rattle.std.proofs.Common.{refl, sym, ap₂, subst, ◌∙◌}
use Rattle.std.proofs.lemmas.List.Elements.{All-nil}
use Rattle.bg_wire.specs.Entries.Codes.{first_watcher, seat_of_o, seat_of_x}
use Rattle.bg_wire.specs.Saved.Restoring.{SlotsRestore}
use Rattle.bg_wire.specs.Saved.SlotLaws.{Slots}
use Rattle.bg_wire.specs.declared.packets.Datagram.{Datagram}
use Rattle.bg_protocol.specs.Worlds.DiceWords.{HandsIn, ShowsWord}
use Rattle.bg_protocol.specs.Worlds.Interleavings.{AreSeenAs, Interleaves, over_devices}
use Rattle.bg_protocol.specs.Protocol.Runs.{IsReached, Run}
use Rattle.bg_protocol.specs.Protocol.Step.{Step}
use Rattle.bg_protocol.specs.Worlds.Simulations.{IsOfWords}
use Rattle.bg_protocol.specs.Worlds.Starts.{AreUnused, fresh_world, terms_in}
use Rattle.bg_protocol.specs.Protocol.State.{IsSetup, ProtocolState, protocol_start}
use Rattle.bg_protocol.specs.Worlds.Views.{KeeperView, LinkView, WorldView}
use Rattle.bg_protocol.specs.Worlds.WorldRuns.{RunsProtocol, history_of}
use Rattle.bg_protocol.specs.Worlds.WorldState.{IsReachedWorld, KeepsWhatWasShown, Restorable, protocol_state, referee_state, seat_state}
use Rattle.bg_protocol.specs.declared.events.Event.{Event}
use Rattle.bg_protocol.specs.declared.events.Outcome.{Outcome}
use Rattle.bg_protocol.specs.declared.worlds.setups.Setup.{Setup}
use Rattle.bg_protocol.proofs.ReachedWorlds.DiceWords.{run_shows}
use Rattle.bg_protocol.proofs.Steps.Goes.{goes}
use Rattle.bg_protocol.proofs.ReachedWorlds.NodeSteps.{node_calls}
use Rattle.bg_protocol.proofs.Protocol.Reached.{reached}
use Rattle.bg_protocol.proofs.ReachedWorlds.Starting.{start_reached, start_state}

-- ---- devices of its own for each process: what is said of a world rests on the datagrams and the slots alone

module _ (w : WorldView) (link : LinkView) (referee x o : KeeperView) (e : AreSeenAs w link referee x o) where
  same_state : (r : Restorable) → protocol_state (over_devices w link referee x o) r ≡ protocol_state w r
  same_state r =
      let v = protocol_state w r in
      let at : List Datagram → Slots → Slots → Slots → ProtocolState
      = λ l a b c. record v {
        referee = referee_state w.referee a r.referee;
        x = seat_state w.x b r.x;
        o = seat_state w.o c r.o;
        sent = l;
      } in
      ap₂ (λ (l : List Datagram) (a : Slots). at l a x.slots o.slots) e.datagrams e.referee_slots
      ∙ ap₂ (λ (b c : Slots). at w.link.sent w.referee_keeper.slots b c) e.x_slots e.o_slots

  seen : IsReachedWorld w → IsReachedWorld (over_devices w link referee x o)
  seen h = record {
    restorable = h.restorable;
    reached = subst IsReached (sym (same_state h.restorable)) h.reached;
    cores = record {
      referee = (
        subst (λ (s : Slots). SlotsRestore s.zero s.one h.restorable.referee) (sym e.referee_slots)
            h.cores.referee.0,
        h.cores.referee.1,
      );
      x = (subst (λ (s : Slots). SlotsRestore s.zero s.one h.restorable.x) (sym e.x_slots) h.cores.x.0, h.cores.x.1);
      o = (subst (λ (s : Slots). SlotsRestore s.zero s.one h.restorable.o) (sym e.o_slots) h.cores.o.0, h.cores.o.1);
      watchers = h.cores.watchers;
    };
    early = record {
      x = subst (λ (l : List Datagram). IfSome w.x (λ s. KeepsWhatWasShown w.id w.terms l seat_of_x s.follower))
          (sym e.datagrams) h.early.x;
      o = subst (λ (l : List Datagram). IfSome w.o (λ s. KeepsWhatWasShown w.id w.terms l seat_of_o s.follower))
          (sym e.datagrams) h.early.o;
      watchers = λ i core g.
          subst (λ (l : List Datagram). KeepsWhatWasShown w.id w.terms l (first_watcher + i) core.follower)
          (sym e.datagrams) (h.early.watchers i core g);
    };
  }

-- ---- many events

pub interleaved : (old : WorldView) (events : List Event) (outcomes : List Outcome) (new : WorldView)
    → Interleaves old events outcomes new → RunsProtocol old events outcomes new
unfolding seen
interleaved old [] [] new h before =
    subst (λ (w : WorldView). (after : IsReachedWorld w)
    × Run (protocol_state old before.restorable) [] (protocol_state w after.restorable)) (sym h) (before, refl)
interleaved old [] (o ∷ os) new h before = absurd h
interleaved old (e ∷ es) [] new h before = absurd h
interleaved old (e ∷ es) (p ∷ ps) new h before =
    let own = over_devices old h.0 h.1 h.2 h.3 in
    let first = goes ⊤ ⊤ own e p h.4 (node_calls own e p h.4 h.6) tt tt (seen old h.0 h.1 h.2 h.3 h.5 before) in
    let rest = interleaved h.4 es ps new h.7 first.0 in (
      rest.0,
      (
        protocol_state h.4 (first.0).restorable,
        subst (λ (w : ProtocolState). Step w e p (protocol_state h.4 (first.0).restorable))
            (same_state old h.0 h.1 h.2 h.3 h.5 before.restorable) first.1,
        rest.1,
      ),
    )

-- ---- from the start

pub of_words : (setup : Setup) (link : LinkView) (referee x o : KeeperView) (events : List Event)
    (outcomes : List Outcome) (new : WorldView)
    → IsSetup setup.id (terms_in setup) setup.watchers → AreUnused link referee x o
    → Interleaves (fresh_world setup link referee x o) events outcomes new → IsOfWords events new
of_words setup link referee x o events outcomes new is unused h =
    let begun = start_reached setup link referee x o unused.none_sent unused.referee_empty unused.x_empty
    unused.o_empty is in
    let to = interleaved (fresh_world setup link referee x o) events outcomes new h begun in
    let first = start_state setup link referee x o unused.none_sent unused.referee_empty unused.x_empty
    unused.o_empty is in
    let w = protocol_start setup.id (terms_in setup) setup.watchers in
    record {
      reached = to.0;
      words = run_shows (HandsIn events) w events outcomes (protocol_state new (to.0).restorable)
          (reached w (subst IsReached first begun.reached)) (λ word k. k) (All-nil (ShowsWord (HandsIn events)))
          (subst (λ (v : ProtocolState). Run v (history_of events outcomes) (protocol_state new (to.0).restorable))
          first to.1);
    }
