-- What happens at the process of a seat is calls of processes in a world of 256 parties.
use Rattle.std.proofs.Common.{◌≡◌, ◌∙◌, ℕ, Some, refl, sym, ap, subst}
use Rattle.std.specs.Prelude.{⊤}
use Rattle.bg_board.specs.declared.players.Player.{Player}
use Rattle.bg_board.specs.declared.players.Player.TheVariants.{X, O}
use Rattle.bg_wire.specs.Parties.{party_of}
use Rattle.bg_protocol.specs.Protocol.Roles.{role}
use Rattle.bg_protocol.specs.Worlds.Interleavings.{NodeCalls, NodeRestarts, NodeSaves, NodeTakes, NodeTicks, over_devices, seat_node, with_seat_node}
use Rattle.bg_protocol.specs.Worlds.Nodes.{SeatNodeChooses, SeatNodeRestarts, SeatNodeSaves, SeatNodeTakes, SeatNodeTicks, SeatNodeView}
use Rattle.bg_protocol.specs.Worlds.Views.{KeeperView, LinkView, WorldView, parties, seat_keeper, with_seat_keeper}
use Rattle.bg_protocol.specs.declared.events.Event.{Event}
use Rattle.bg_protocol.specs.declared.events.Event.TheVariants as events
use Rattle.bg_protocol.specs.declared.events.Outcome.{Outcome}
use Rattle.bg_protocol.specs.declared.roles.Role.{Role}
use Rattle.bg_protocol.specs.declared.roles.Role.TheVariants as roles
use Rattle.bg_processes.specs.Instances.{IsInstance, IsSameParty, RunsSeat}
use Rattle.bg_processes.specs.Rounds.{most_parties}
use Rattle.bg_processes.specs.SeatRounds.{SeatCalls, SeatHappens, SeatMoment}
use Rattle.bg_processes.proofs.Stepping.{Steps, by_core, is_instance}

-- ---- what a call keeps of the node

IsKeptSeat : SeatNodeView → SeatNodeView → Type 0
IsKeptSeat old new = new ≡ record old { core = new.core }

seat_like : (old new like : SeatNodeView) → new ≡ like → IsKeptSeat old like → IsKeptSeat old new
seat_like old new like is kept = subst (λ (n : SeatNodeView). IsKeptSeat old n) (sym is) kept

seat_kept : (at : SeatMoment) (event : Event) (outcome : Outcome) (link : LinkView) (keeper : KeeperView)
    (node : SeatNodeView) → SeatCalls ⊤ ⊤ at event outcome link keeper node → IsKeptSeat at.node node
unfolding IsKeptSeat
seat_kept at (events.Due word) outcome link keeper node h = absurd h
seat_kept at (events.Take party pick word) outcome link keeper node h =
    by_core (at.node).core (λ d. seat_like at.node node at.node d.2 refl)
    (λ core d. seat_like at.node node (record (at.node) { core = Some d.0 }) d.2 refl) h.3
seat_kept at (events.Choose player action) outcome link keeper node h =
    by_core (at.node).core (λ d. seat_like at.node node at.node d.1 refl)
    (λ core d. seat_like at.node node (record (at.node) { core = Some d.1 }) d.4 refl) h.1
seat_kept at (events.Save party) outcome link keeper node h = (h.1).1
seat_kept at (events.Tick party) outcome link keeper node h =
    by_core (at.node).core (λ d. seat_like at.node node at.node d.2 refl)
    (λ core d. seat_like at.node node (record (at.node) { core = Some d.0 }) d.2 refl) h.1
seat_kept at (events.Restart party) outcome link keeper node h = (h.1).1

-- ---- an event is a call

seat_role : (player : Player) → role (party_of player) ≡ roles.Seat player
seat_role X = refl
seat_role O = refl

-- a world stays where a seat's keeper is put back
kept_keeper : (w : WorldView) (player : Player) (link : LinkView)
    → with_seat_keeper (record w { link = link }) player (seat_keeper w player) ≡ record w { link = link }
kept_keeper w X link = refl
kept_keeper w O link = refl

-- a world that has the process's devices, and after the call
module _ (player : Player) (own : WorldView) (old new : SeatMoment) (player_is : old.player ≡ player)
    (node_is : old.node ≡ seat_node own player) (link_is : own.link ≡ old.link)
    (keeper_is : seat_keeper own player ≡ old.keeper) (few : parties own ≡ most_parties) where
  next : WorldView
  next = with_seat_node (with_seat_keeper (record own { link = new.link }) player new.keeper) player new.node

  in_world : (P : SeatNodeView → Type 0) → P old.node → P (seat_node own player)
  in_world P h = subst P node_is h

  in_keeper : (P : KeeperView → Type 0) → P old.keeper → P (seat_keeper own player)
  in_keeper P h = subst P (sym keeper_is) h

  same_link : new.link ≡ old.link → next ≡ with_seat_node (with_seat_keeper own player new.keeper) player new.node
  unfolding next
  same_link is =
      ap (λ (l : LinkView). with_seat_node (with_seat_keeper (record own { link = l }) player new.keeper) player new.node)
      (is ∙ sym link_is)

  same_keeper : new.keeper ≡ old.keeper → next ≡ with_seat_node (record own { link = new.link }) player new.node
  unfolding next
  same_keeper is =
      ap (λ (k : KeeperView). with_seat_node (with_seat_keeper (record own { link = new.link }) player k) player new.node)
      (is ∙ sym keeper_is)
      ∙ ap (λ (w : WorldView). with_seat_node w player new.node) (kept_keeper own player new.link)

  same_devices : new.link ≡ old.link → new.keeper ≡ old.keeper → next ≡ with_seat_node own player new.node
  same_devices link keeper =
      same_keeper keeper
      ∙ ap (λ (l : LinkView). with_seat_node (record own { link = l }) player new.node) (link ∙ sym link_is)

  its_role : (party : ℕ) → party ≡ party_of old.player → role party ≡ roles.Seat player
  its_role party is = ap role (is ∙ ap party_of player_is) ∙ seat_role player

  seat_calls : (event : Event) (outcome : Outcome) → SeatCalls ⊤ ⊤ old event outcome new.link new.keeper new.node
      → NodeCalls ⊤ ⊤ own event outcome next
  unfolding next
  seat_calls (events.Due word) outcome h = absurd h
  seat_calls (events.Take party pick word) outcome h =
      let takes : NodeTakes ⊤ own (roles.Seat player) party pick word outcome next = (
        new.link,
        new.node,
        subst (λ (l : LinkView). SeatNodeTakes ⊤ l (seat_node own player) pick outcome new.link new.node) (sym link_is)
            (in_world (λ (n : SeatNodeView). SeatNodeTakes ⊤ old.link n pick outcome new.link new.node) h.3),
        same_keeper h.4,
      ) in
      subst (λ (r : Role). NodeTakes ⊤ own r party pick word outcome next) (sym (its_role party h.0)) takes
  seat_calls (events.Choose chooser action) outcome h =
      let chooses : NodeCalls ⊤ ⊤ own (events.Choose player action) outcome next = (
        new.node,
        in_world (λ (n : SeatNodeView). SeatNodeChooses n action outcome new.node) h.1,
        same_devices h.2 h.3,
      ) in
      subst (λ (p : Player). NodeCalls ⊤ ⊤ own (events.Choose p action) outcome next) (sym (h.0 ∙ player_is)) chooses
  seat_calls (events.Save party) outcome h =
      let saves : NodeSaves ⊤ own (roles.Seat player) outcome next = (
        new.keeper,
        new.node,
        in_keeper (λ (k : KeeperView). SeatNodeSaves ⊤ k (seat_node own player) outcome new.keeper new.node)
            (in_world (λ (n : SeatNodeView). SeatNodeSaves ⊤ old.keeper n outcome new.keeper new.node) h.1),
        same_link h.2,
      ) in
      subst (λ (r : Role). NodeSaves ⊤ own r outcome next) (sym (its_role party h.0)) saves
  seat_calls (events.Tick party) outcome h =
      let ticks : NodeTicks ⊤ own (roles.Seat player) outcome next = (
        new.link,
        new.node,
        subst (λ (k : ℕ). SeatNodeTicks ⊤ k own.link (seat_node own player) outcome new.link new.node) (sym few)
            (subst (λ (l : LinkView). SeatNodeTicks ⊤ most_parties l (seat_node own player) outcome new.link new.node)
            (sym link_is)
            (in_world (λ (n : SeatNodeView). SeatNodeTicks ⊤ most_parties old.link n outcome new.link new.node) h.1)),
        same_keeper h.2,
      ) in
      subst (λ (r : Role). NodeTicks ⊤ own r outcome next) (sym (its_role party h.0)) ticks
  seat_calls (events.Restart party) outcome h =
      let restarts : NodeRestarts ⊤ own (roles.Seat player) party outcome next = (
        new.keeper,
        new.node,
        in_keeper (λ (k : KeeperView). SeatNodeRestarts ⊤ k (seat_node own player) outcome new.keeper new.node)
            (in_world (λ (n : SeatNodeView). SeatNodeRestarts ⊤ old.keeper n outcome new.keeper new.node) h.1),
        same_link h.2,
      ) in
      subst (λ (r : Role). NodeRestarts ⊤ own r party outcome next) (sym (its_role party h.0)) restarts

-- ---- and the others stay

world_of_x : WorldView → SeatMoment → WorldView
world_of_x w at = over_devices w at.link w.referee_keeper at.keeper w.o_keeper

world_of_o : WorldView → SeatMoment → WorldView
world_of_o w at = over_devices w at.link w.referee_keeper w.x_keeper at.keeper

other_than_x : (w : WorldView) (old new : SeatMoment) (other : Role) → (other ≡ roles.Seat X → ⊥)
    → IsSameParty w
    (with_seat_node (with_seat_keeper (record (world_of_x w old) { link = new.link }) X new.keeper) X new.node) other
unfolding world_of_x
other_than_x w old new roles.Referee differs = (refl, refl)
other_than_x w old new (roles.Seat X) differs = absurd (differs refl)
other_than_x w old new (roles.Seat O) differs = (refl, refl)
other_than_x w old new (roles.Watcher index) differs = refl

other_than_o : (w : WorldView) (old new : SeatMoment) (other : Role) → (other ≡ roles.Seat O → ⊥)
    → IsSameParty w
    (with_seat_node (with_seat_keeper (record (world_of_o w old) { link = new.link }) O new.keeper) O new.node) other
unfolding world_of_o
other_than_o w old new roles.Referee differs = (refl, refl)
other_than_o w old new (roles.Seat X) differs = (refl, refl)
other_than_o w old new (roles.Seat O) differs = absurd (differs refl)
other_than_o w old new (roles.Watcher index) differs = refl

seat_steps : (player : Player) (w : WorldView) (old new : SeatMoment) (event : Event) (outcome : Outcome)
    → parties w ≡ most_parties → RunsSeat player w old → SeatHappens ⊤ ⊤ old event outcome new
    → Steps (RunsSeat player) (roles.Seat player) w event outcome new
unfolding next world_of_x world_of_o IsKeptSeat
seat_steps X w old new event outcome few runs h = record {
  link = old.link;
  kept_r = w.referee_keeper;
  kept_x = old.keeper;
  kept_o = w.o_keeper;
  next = with_seat_node (with_seat_keeper (record (world_of_x w old) { link = new.link }) X new.keeper) X new.node;
  seen = record { datagrams = runs.datagrams; referee_slots = refl; x_slots = runs.slots; o_slots = refl };
  calls = seat_calls X (world_of_x w old) old new runs.player_is runs.node refl refl few event outcome h.calls;
  runs = record {
    player_is = h.player ∙ runs.player_is;
    node = seat_kept old event outcome new.link new.keeper new.node h.calls
        ∙ ap (λ (n : SeatNodeView). record n { core = (new.node).core }) runs.node;
    slots = refl;
    datagrams = refl;
  };
  others = record { id = refl; terms = refl; count = refl; others = other_than_x w old new };
}
seat_steps O w old new event outcome few runs h = record {
  link = old.link;
  kept_r = w.referee_keeper;
  kept_x = w.x_keeper;
  kept_o = old.keeper;
  next = with_seat_node (with_seat_keeper (record (world_of_o w old) { link = new.link }) O new.keeper) O new.node;
  seen = record { datagrams = runs.datagrams; referee_slots = refl; x_slots = refl; o_slots = runs.slots };
  calls = seat_calls O (world_of_o w old) old new runs.player_is runs.node refl refl few event outcome h.calls;
  runs = record {
    player_is = h.player ∙ runs.player_is;
    node = seat_kept old event outcome new.link new.keeper new.node h.calls
        ∙ ap (λ (n : SeatNodeView). record n { core = (new.node).core }) runs.node;
    slots = refl;
    datagrams = refl;
  };
  others = record { id = refl; terms = refl; count = refl; others = other_than_o w old new };
}

pub seat_is_instance : (player : Player) → IsInstance (SeatHappens ⊤ ⊤) (RunsSeat player) (roles.Seat player)
seat_is_instance player =
    is_instance (SeatHappens ⊤ ⊤) (RunsSeat player) (roles.Seat player)
    (λ w old new event outcome few runs h. seat_steps player w old new event outcome few runs h)
