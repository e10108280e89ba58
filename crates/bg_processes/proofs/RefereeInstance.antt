-- What happens at the process of a referee is calls of processes in a world of 256 parties.
use Rattle.std.proofs.Common.{◌≡◌, ◌∙◌, ℕ, zero, suc, Some, refl, sym, ap, ap₂, subst, arith}
use Rattle.std.specs.Prelude.{⊤}
use Rattle.bg_board.specs.declared.players.Player.TheVariants.{X, O}
use Rattle.bg_protocol.specs.Worlds.Interleavings.{NodeCalls, over_devices, referee_node, with_referee_node}
use Rattle.bg_protocol.specs.Worlds.Nodes.{RefereeNodeDues, RefereeNodeRestarts, RefereeNodeSaves, RefereeNodeTakes, RefereeNodeTicks, RefereeNodeView}
use Rattle.bg_protocol.specs.Worlds.Views.{KeeperView, LinkView, WorldView, parties}
use Rattle.bg_protocol.specs.declared.events.Event.{Event}
use Rattle.bg_protocol.specs.declared.events.Event.TheVariants as events
use Rattle.bg_protocol.specs.declared.events.Outcome.{Outcome}
use Rattle.bg_protocol.specs.declared.roles.Role.{Role}
use Rattle.bg_protocol.specs.declared.roles.Role.TheVariants as roles
use Rattle.bg_processes.specs.Instances.{IsInstance, IsSameParty, RunsReferee}
use Rattle.bg_processes.specs.RefereeRounds.{RefereeCalls, RefereeHappens, RefereeMoment}
use Rattle.bg_processes.specs.Rounds.{most_parties}
use Rattle.bg_processes.proofs.Stepping.{Steps, by_core, is_instance}

IsKeptReferee : RefereeNodeView → RefereeNodeView → Type 0
IsKeptReferee old new = new ≡ record old { core = new.core }

referee_like : (old new like : RefereeNodeView) → new ≡ like → IsKeptReferee old like → IsKeptReferee old new
unfolding IsKeptReferee
referee_like old new like is kept = subst (λ (n : RefereeNodeView). IsKeptReferee old n) (sym is) kept

referee_kept : (at : RefereeMoment) (event : Event) (outcome : Outcome) (link : LinkView) (keeper : KeeperView)
    (node : RefereeNodeView) → RefereeCalls ⊤ ⊤ at event outcome link keeper node → IsKeptReferee at.node node
unfolding IsKeptReferee
referee_kept at (events.Due word) outcome link keeper node h =
    by_core (at.node).core (λ d. referee_like at.node node at.node d.1 refl)
    (λ core d. referee_like at.node node (record (at.node) { core = Some d.1 }) d.4 refl) h.1
referee_kept at (events.Take party pick word) outcome link keeper node h =
    by_core (at.node).core (λ d. referee_like at.node node at.node d.2 refl)
    (λ core d. referee_like at.node node (record (at.node) { core = Some d.0 }) d.2 refl) h.3
referee_kept at (events.Choose player action) outcome link keeper node h = absurd h
referee_kept at (events.Save party) outcome link keeper node h = (h.1).1
referee_kept at (events.Tick party) outcome link keeper node h =
    by_core (at.node).core (λ d. referee_like at.node node at.node d.2 refl)
    (λ core d. referee_like at.node node (record (at.node) { core = Some d.0 }) d.2 refl) h.1
referee_kept at (events.Restart party) outcome link keeper node h = (h.1).1

module _ (w : WorldView) (old new : RefereeMoment) (few : parties w ≡ most_parties) (runs : RunsReferee w old) where
  own_world : WorldView
  own_world = over_devices w old.link old.keeper w.x_keeper w.o_keeper

  next_world : WorldView
  next_world = with_referee_node (record own_world { link = new.link; referee_keeper = new.keeper }) new.node

  -- the process's node is that of the world over its devices
  in_world : (P : RefereeNodeView → Type 0) → P old.node → P (referee_node own_world)
  unfolding own_world
  in_world P h = subst P runs.node h

  same_link : new.link ≡ old.link
      → next_world ≡ with_referee_node (record own_world { referee_keeper = new.keeper }) new.node
  unfolding own_world next_world
  same_link is =
      ap (λ (l : LinkView). with_referee_node (record own_world { link = l; referee_keeper = new.keeper }) new.node) is

  same_keeper : new.keeper ≡ old.keeper
      → next_world ≡ with_referee_node (record own_world { link = new.link }) new.node
  unfolding own_world next_world
  same_keeper is =
      ap (λ (k : KeeperView). with_referee_node (record own_world { link = new.link; referee_keeper = k }) new.node) is

  same_devices : new.link ≡ old.link → new.keeper ≡ old.keeper → next_world ≡ with_referee_node own_world new.node
  unfolding own_world next_world
  same_devices link keeper =
      ap₂ (λ (l : LinkView) (k : KeeperView).
      with_referee_node (record own_world { link = l; referee_keeper = k }) new.node) link keeper

  referee_calls : (event : Event) (outcome : Outcome) → RefereeCalls ⊤ ⊤ old event outcome new.link new.keeper new.node
      → NodeCalls ⊤ ⊤ own_world event outcome next_world
  unfolding own_world next_world
  referee_calls (events.Due word) outcome h = (
    new.node,
    in_world (λ (n : RefereeNodeView). RefereeNodeDues n word outcome new.node) h.1,
    same_devices h.2 h.3,
  )
  referee_calls (events.Take zero pick word) outcome h = (
    new.link,
    new.node,
    subst (λ (k : ℕ). RefereeNodeTakes ⊤ k old.link (referee_node own_world) pick word outcome new.link new.node)
        (sym few)
        (in_world
        (λ (n : RefereeNodeView). RefereeNodeTakes ⊤ most_parties old.link n pick word outcome new.link new.node) h.3),
    same_keeper h.4,
  )
  referee_calls (events.Take (suc party) pick word) outcome h = let e : suc party ≡ 0 = h.0 in absurd (omega arith)
  referee_calls (events.Choose player action) outcome h = absurd h
  referee_calls (events.Save zero) outcome h = (
    new.keeper,
    new.node,
    in_world (λ (n : RefereeNodeView). RefereeNodeSaves ⊤ old.keeper n outcome new.keeper new.node) h.1,
    same_link h.2,
  )
  referee_calls (events.Save (suc party)) outcome h = let e : suc party ≡ 0 = h.0 in absurd (omega arith)
  referee_calls (events.Tick zero) outcome h = (
    new.link,
    new.node,
    subst (λ (k : ℕ). RefereeNodeTicks ⊤ k old.link (referee_node own_world) outcome new.link new.node) (sym few)
        (in_world (λ (n : RefereeNodeView). RefereeNodeTicks ⊤ most_parties old.link n outcome new.link new.node) h.1),
    same_keeper h.2,
  )
  referee_calls (events.Tick (suc party)) outcome h = let e : suc party ≡ 0 = h.0 in absurd (omega arith)
  referee_calls (events.Restart zero) outcome h = (
    new.keeper,
    new.node,
    in_world (λ (n : RefereeNodeView). RefereeNodeRestarts ⊤ old.keeper n outcome new.keeper new.node) h.1,
    same_link h.2,
  )
  referee_calls (events.Restart (suc party)) outcome h = let e : suc party ≡ 0 = h.0 in absurd (omega arith)

  other_than_referee : (other : Role) → (other ≡ roles.Referee → ⊥) → IsSameParty w next_world other
  unfolding own_world next_world
  other_than_referee roles.Referee differs = absurd (differs refl)
  other_than_referee (roles.Seat X) differs = (refl, refl)
  other_than_referee (roles.Seat O) differs = (refl, refl)
  other_than_referee (roles.Watcher index) differs = refl

  referee_steps : (event : Event) (outcome : Outcome) → RefereeHappens ⊤ ⊤ old event outcome new
      → Steps RunsReferee roles.Referee w event outcome new
  unfolding own_world next_world IsKeptReferee
  referee_steps event outcome h = record {
    link = old.link;
    kept_r = old.keeper;
    kept_x = w.x_keeper;
    kept_o = w.o_keeper;
    next = next_world;
    seen = record { datagrams = runs.datagrams; referee_slots = runs.slots; x_slots = refl; o_slots = refl };
    calls = referee_calls event outcome h.calls;
    runs = record {
      node = referee_kept old event outcome new.link new.keeper new.node h.calls
          ∙ ap (λ (n : RefereeNodeView). record n { core = (new.node).core }) runs.node;
      slots = refl;
      datagrams = refl;
    };
    others = record { id = refl; terms = refl; count = refl; others = other_than_referee };
  }

pub referee_is_instance : IsInstance (RefereeHappens ⊤ ⊤) RunsReferee roles.Referee
referee_is_instance =
    is_instance (RefereeHappens ⊤ ⊤) RunsReferee roles.Referee
    (λ w old new event outcome few runs h. referee_steps w old new few runs event outcome h)
