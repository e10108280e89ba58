-- What the node of a party does over honest devices is what the event does to the world.
use Rattle.std.specs.Prelude.{ℕ, zero, suc, Option, Some, None, MatchOption, ⊤}
use Rattle.std.proofs.Common.{sym, ap, subst, ◌∙◌}
use Rattle.bg_board.specs.declared.players.Player.{Player}
use Rattle.bg_board.specs.declared.players.Player.TheVariants.{X, O}
use Rattle.bg_match.specs.declared.actions.Action.{Action}
use Rattle.bg_wire.specs.Parties.{party_of}
use Rattle.bg_protocol.specs.Worlds.Calls.{Calls, ChooseCalls, DueCalls, RestartCalls, SaveCalls, TakeCalls, TickCalls}
use Rattle.bg_protocol.specs.Worlds.Interleavings.{NodeCalls, NodeRestarts, NodeSaves, NodeTakes, NodeTicks, with_referee_node, with_seat_node}
use Rattle.bg_protocol.specs.Worlds.Nodes.{RefereeNodeView, SeatNodeView}
use Rattle.bg_protocol.specs.Worlds.Views.{LinkView, WorldView, seat_core}
use Rattle.bg_protocol.specs.declared.events.Event.{Event}
use Rattle.bg_protocol.specs.declared.events.Event.TheVariants as events
use Rattle.bg_protocol.specs.declared.events.Outcome.{Outcome}
use Rattle.bg_protocol.specs.declared.roles.Role.TheVariants as roles
use Rattle.bg_protocol.proofs.Seats.{either_order, put_back, put_back_over}

-- where each case follows from the same case
cases : {A : Type 0} {P Q : Type 0} {F G : A → Type 0} → (o : Option A) → (P → Q) → ((a : A) → F a → G a)
    → MatchOption o P F → MatchOption o Q G
cases None p f h = p h
cases (Some a) p f h = f a h

-- ---- the referee

due_calls : (w : WorldView) (word : ℕ) (o : Outcome) (new : WorldView) → NodeCalls ⊤ ⊤ w (events.Due word) o new
    → DueCalls w word o new
due_calls w word o new h = subst (λ (v : WorldView). DueCalls w word o v) (sym h.2)
    (cases w.referee
    (λ d. (d.0, ap (with_referee_node w) d.1))
    (λ core d. (d.0, d.1, d.2, d.3, ap (with_referee_node w) d.4))
    h.1)

take_calls_referee : (w : WorldView) (party pick word : ℕ) (o : Outcome) (new : WorldView)
    → NodeTakes ⊤ w roles.Referee party pick word o new → TakeCalls ⊤ w roles.Referee party pick word o new
take_calls_referee w party pick word o new h =
    let at = λ (n : RefereeNodeView). with_referee_node (record w { link = h.0 }) n in
    subst (λ (v : WorldView). TakeCalls ⊤ w roles.Referee party pick word o v) (sym h.3)
    (cases w.referee
    (λ d. (d.0, ap at d.2 ∙ ap (λ (l : LinkView). record w { link = l }) d.1))
    (λ core d. (h.0, d.0, d.1, ap at d.2))
    h.2)

tick_calls_referee : (w : WorldView) (o : Outcome) (new : WorldView)
    → NodeTicks ⊤ w roles.Referee o new → TickCalls ⊤ w roles.Referee o new
tick_calls_referee w o new h =
    let at = λ (n : RefereeNodeView). with_referee_node (record w { link = h.0 }) n in
    subst (λ (v : WorldView). TickCalls ⊤ w roles.Referee o v) (sym h.3)
    (cases w.referee
    (λ d. (d.0, ap at d.2 ∙ ap (λ (l : LinkView). record w { link = l }) d.1))
    (λ core d. (h.0, d.0, d.1, ap at d.2))
    h.2)

-- ---- a seat

choose_calls : (w : WorldView) (player : Player) (action : Action) (o : Outcome) (new : WorldView)
    → NodeCalls ⊤ ⊤ w (events.Choose player action) o new → ChooseCalls w player action o new
choose_calls w player action o new h =
    let at = λ (n : SeatNodeView). with_seat_node w player n in
    subst (λ (v : WorldView). ChooseCalls w player action o v) (sym h.2)
    (cases (seat_core w player)
    (λ d. (d.0, ap at d.1 ∙ put_back w player))
    (λ core d. (d.0, d.1, d.2, d.3, ap at d.4))
    h.1)

take_calls_seat : (w : WorldView) (player : Player) (pick word : ℕ) (o : Outcome) (new : WorldView)
    → NodeTakes ⊤ w (roles.Seat player) (party_of player) pick word o new
    → TakeCalls ⊤ w (roles.Seat player) (party_of player) pick word o new
take_calls_seat w player pick word o new h =
    let at = λ (n : SeatNodeView). with_seat_node (record w { link = h.0 }) player n in
    subst (λ (v : WorldView). TakeCalls ⊤ w (roles.Seat player) (party_of player) pick word o v) (sym h.3)
    (cases (seat_core w player)
    (λ d. (d.0, ap at d.2 ∙ put_back_over w player h.0 ∙ ap (λ (l : LinkView). record w { link = l }) d.1))
    (λ core d. (h.0, d.0, d.1, ap at d.2))
    h.2)

tick_calls_seat : (w : WorldView) (player : Player) (o : Outcome) (new : WorldView)
    → NodeTicks ⊤ w (roles.Seat player) o new → TickCalls ⊤ w (roles.Seat player) o new
tick_calls_seat w player o new h =
    let at = λ (n : SeatNodeView). with_seat_node (record w { link = h.0 }) player n in
    subst (λ (v : WorldView). TickCalls ⊤ w (roles.Seat player) o v) (sym h.3)
    (cases (seat_core w player)
    (λ d. (d.0, ap at d.2 ∙ put_back_over w player h.0 ∙ ap (λ (l : LinkView). record w { link = l }) d.1))
    (λ core d. (h.0, d.0, d.1, ap at d.2))
    h.2)

save_calls_seat : (w : WorldView) (player : Player) (o : Outcome) (new : WorldView)
    → NodeSaves ⊤ w (roles.Seat player) o new → SaveCalls ⊤ w (roles.Seat player) o new
save_calls_seat w player o new h = (h.0, (h.1).core, (h.2).0, h.3 ∙ either_order w player (h.1).core h.0)

restart_calls_seat : (w : WorldView) (player : Player) (party : ℕ) (o : Outcome) (new : WorldView)
    → NodeRestarts ⊤ w (roles.Seat player) party o new → RestartCalls ⊤ w (roles.Seat player) party o new
restart_calls_seat w player party o new h =
    (h.0, (h.1).core, (h.2).0, h.3 ∙ either_order w player (h.1).core h.0)

-- ---- any event

pub node_calls : (w : WorldView) (event : Event) (o : Outcome) (new : WorldView) → NodeCalls ⊤ ⊤ w event o new
    → Calls ⊤ ⊤ w event o new
node_calls w (events.Due word) o new h = due_calls w word o new h
node_calls w (events.Take zero pick word) o new h = take_calls_referee w 0 pick word o new h
node_calls w (events.Take (suc zero) pick word) o new h = take_calls_seat w X pick word o new h
node_calls w (events.Take (suc (suc zero)) pick word) o new h = take_calls_seat w O pick word o new h
node_calls w (events.Take (suc (suc (suc i))) pick word) o new h = h
node_calls w (events.Choose player action) o new h = choose_calls w player action o new h
node_calls w (events.Save zero) o new h = (h.0, (h.1).core, (h.2).0, h.3)
node_calls w (events.Save (suc zero)) o new h = save_calls_seat w X o new h
node_calls w (events.Save (suc (suc zero))) o new h = save_calls_seat w O o new h
node_calls w (events.Save (suc (suc (suc i)))) o new h = h
node_calls w (events.Tick zero) o new h = tick_calls_referee w o new h
node_calls w (events.Tick (suc zero)) o new h = tick_calls_seat w X o new h
node_calls w (events.Tick (suc (suc zero))) o new h = tick_calls_seat w O o new h
node_calls w (events.Tick (suc (suc (suc i)))) o new h = h
node_calls w (events.Restart zero) o new h = (h.0, (h.1).core, (h.2).0, h.3)
node_calls w (events.Restart (suc zero)) o new h = restart_calls_seat w X 1 o new h
node_calls w (events.Restart (suc (suc zero))) o new h = restart_calls_seat w O 2 o new h
node_calls w (events.Restart (suc (suc (suc i)))) o new h = h
