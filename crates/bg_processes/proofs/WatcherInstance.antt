-- What happens at the process of one who watches is calls of processes in a world of 256 parties.
use Rattle.std.proofs.Common.{◌≡◌, ◌+◌, ◌∙◌, ℕ, zero, suc, List, [], ◌∷◌, Some, None, Option, refl, sym, ap, subst, arith}
use Rattle.std.proofs.lemmas.List.{length-set}
use Rattle.std.specs.Prelude.{MatchOption, slice_get, slice_set, ⊤}
use Rattle.bg_board.specs.declared.players.Player.TheVariants.{X, O}
use Rattle.bg_party.specs.Claims.{WatcherTicks}
use Rattle.bg_party.specs.Views.{WatcherView}
use Rattle.bg_wire.specs.Entries.Codes.{first_watcher}
use Rattle.bg_protocol.specs.Devices.LinkCalls.{FollowerTakeCalls, FollowerTickCalls}
use Rattle.bg_protocol.specs.Protocol.Roles.{role}
use Rattle.bg_protocol.specs.Worlds.Calls.{NoCalls, WatcherTakes}
use Rattle.bg_protocol.specs.Worlds.Interleavings.{NodeCalls, NodeTakes, NodeTicks, over_devices}
use Rattle.bg_protocol.specs.Worlds.Views.{LinkView, WorldView, parties}
use Rattle.bg_protocol.specs.declared.events.Event.{Event}
use Rattle.bg_protocol.specs.declared.events.Event.TheVariants as events
use Rattle.bg_protocol.specs.declared.events.Outcome.{Outcome}
use Rattle.bg_protocol.specs.declared.events.Outcome.TheVariants as outcomes
use Rattle.bg_protocol.specs.declared.roles.Role.{Role}
use Rattle.bg_protocol.specs.declared.roles.Role.TheVariants as roles
use Rattle.bg_protocol.proofs.ReachedWorlds.Numbered.{take_keeps, tick_keeps}
use Rattle.bg_processes.specs.Instances.{IsInstance, IsSameParty, RunsWatcher}
use Rattle.bg_processes.specs.Rounds.{most_parties}
use Rattle.bg_processes.specs.WatcherRounds.{WatcherCalls, WatcherHappens, WatcherMoment}
use Rattle.bg_processes.proofs.Stepping.{Steps, is_instance}

-- ---- lists

get_set : (xs : List WatcherView) (i : ℕ) (x y : WatcherView) → slice_get xs i ≡ Some y
    → slice_get (slice_set xs i x) i ≡ Some x
get_set [] zero x y is = let e : None ≡ Some y = is in absurd cc
get_set [] (suc i) x y is = let e : None ≡ Some y = is in absurd cc
get_set (z ∷ zs) zero x y is = refl
get_set (z ∷ zs) (suc i) x y is = get_set zs i x y is

get_other : (xs : List WatcherView) (i j : ℕ) (x : WatcherView) → (j ≡ i → ⊥)
    → slice_get (slice_set xs i x) j ≡ slice_get xs j
get_other [] i j x differs = refl
get_other (z ∷ zs) zero zero x differs = absurd (differs refl)
get_other (z ∷ zs) zero (suc j) x differs = refl
get_other (z ∷ zs) (suc i) zero x differs = refl
get_other (z ∷ zs) (suc i) (suc j) x differs = get_other zs i j x (λ e. differs (ap suc e))

-- ---- an event is a call

watcher_role : (index : ℕ) → role (first_watcher + index) ≡ roles.Watcher index
watcher_role index = let e : first_watcher + index ≡ suc (suc (suc index)) = omega arith in ap role e

module _ (index : ℕ) (w : WorldView) (old new : WatcherMoment) (few : parties w ≡ most_parties)
    (runs : RunsWatcher index w old) where
  own : WorldView
  own = over_devices w old.link w.referee_keeper w.x_keeper w.o_keeper

  next : WorldView
  next = record own { link = new.link; watchers = slice_set w.watchers index new.node }

  its_role : (party : ℕ) → party ≡ old.party → role party ≡ roles.Watcher index
  its_role party is = ap role (is ∙ runs.party_is) ∙ watcher_role index

  at_index : (P : Type 0) (F : WatcherView → Type 0) → F old.node → MatchOption (slice_get w.watchers index) P F
  at_index P F h = subst (λ (o : Option WatcherView). MatchOption o P F) (sym runs.node) h

  watcher_calls : (event : Event) (outcome : Outcome) → WatcherCalls ⊤ old event outcome new.link new.node
      → NodeCalls ⊤ ⊤ own event outcome next
  unfolding own next
  watcher_calls (events.Due word) outcome h = absurd h
  watcher_calls (events.Take party pick word) outcome h =
      let takes : FollowerTakeCalls WatcherTakes ⊤ party old.link old.node pick outcome new.link new.node =
      subst (λ (p : ℕ). FollowerTakeCalls WatcherTakes ⊤ p old.link old.node pick outcome new.link new.node)
      (runs.node_party ∙ sym h.0) h.3 in
      let calls : NodeTakes ⊤ own (roles.Watcher index) party pick word outcome next =
      at_index (NoCalls outcomes.NoSuchParty own outcome next)
      (λ core. (link : LinkView) × (after : WatcherView)
      × FollowerTakeCalls WatcherTakes ⊤ party old.link core pick outcome link after
      × (next ≡ record own { link = link; watchers = slice_set w.watchers index after }))
      (new.link, new.node, takes, refl) in
      subst (λ (r : Role). NodeTakes ⊤ own r party pick word outcome next) (sym (its_role party h.0)) calls
  watcher_calls (events.Choose player action) outcome h = absurd h
  watcher_calls (events.Save party) outcome h = absurd h
  watcher_calls (events.Tick party) outcome h =
      let ticks : FollowerTickCalls WatcherTicks ⊤ (parties own) old.link old.node outcome new.link new.node =
      subst (λ (k : ℕ). FollowerTickCalls WatcherTicks ⊤ k old.link old.node outcome new.link new.node) (sym few) h.1 in
      let calls : NodeTicks ⊤ own (roles.Watcher index) outcome next =
      at_index (NoCalls outcomes.NoSuchParty own outcome next)
      (λ core. (link : LinkView) × (after : WatcherView)
      × FollowerTickCalls WatcherTicks ⊤ (parties own) old.link core outcome link after
      × (next ≡ record own { link = link; watchers = slice_set w.watchers index after }))
      (new.link, new.node, ticks, refl) in
      subst (λ (r : Role). NodeTicks ⊤ own r outcome next) (sym (its_role party h.0)) calls
  watcher_calls (events.Restart party) outcome h = absurd h

  -- the party of the node is the same
  same_number : (event : Event) (outcome : Outcome) → WatcherCalls ⊤ old event outcome new.link new.node
      → (new.node).party ≡ (old.node).party
  same_number (events.Due word) outcome h = absurd h
  same_number (events.Take party pick word) outcome h =
      take_keeps ⊤ (old.node).party old.link old.node pick outcome new.link new.node h.3
  same_number (events.Choose player action) outcome h = absurd h
  same_number (events.Save party) outcome h = absurd h
  same_number (events.Tick party) outcome h =
      tick_keeps ⊤ most_parties old.link old.node outcome new.link new.node h.1
  same_number (events.Restart party) outcome h = absurd h

  other_than : (other : Role) → (other ≡ roles.Watcher index → ⊥) → IsSameParty w next other
  unfolding own next
  other_than roles.Referee differs = (refl, refl)
  other_than (roles.Seat X) differs = (refl, refl)
  other_than (roles.Seat O) differs = (refl, refl)
  other_than (roles.Watcher i) differs = get_other w.watchers index i new.node (λ e. differs (ap roles.Watcher e))

  watcher_steps : (event : Event) (outcome : Outcome) → WatcherHappens ⊤ old event outcome new
      → Steps (RunsWatcher index) (roles.Watcher index) w event outcome new
  unfolding own next
  watcher_steps event outcome h = record {
    link = old.link;
    kept_r = w.referee_keeper;
    kept_x = w.x_keeper;
    kept_o = w.o_keeper;
    next = next;
    seen = record { datagrams = runs.datagrams; referee_slots = refl; x_slots = refl; o_slots = refl };
    calls = watcher_calls event outcome h.calls;
    runs = record {
      party_is = h.party ∙ runs.party_is;
      node_party = same_number event outcome h.calls ∙ runs.node_party ∙ sym h.party;
      node = get_set w.watchers index new.node old.node runs.node;
      datagrams = refl;
    };
    others = record {
      id = refl;
      terms = refl;
      count = ap (λ (n : ℕ). first_watcher + n) (length-set w.watchers index new.node);
      others = other_than;
    };
  }

pub watcher_is_instance : (index : ℕ) → IsInstance (WatcherHappens ⊤) (RunsWatcher index) (roles.Watcher index)
watcher_is_instance index =
    is_instance (WatcherHappens ⊤) (RunsWatcher index) (roles.Watcher index)
    (λ w old new event outcome few runs h. watcher_steps index w old new few runs event outcome h)
