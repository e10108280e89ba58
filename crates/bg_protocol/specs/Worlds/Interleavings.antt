-- Parties that run each in a process of its own, over one network: their calls, one after the other
-- in any order.
use Rattle.std.specs.Prelude.{◌≡◌, ℕ, List, [], ◌∷◌, ⊤, MatchOption, slice_get, slice_set}
use Rattle.bg_board.specs.declared.players.Player.{Player}
use Rattle.bg_party.specs.Claims.{WatcherTicks}
use Rattle.bg_party.specs.Views.{WatcherView, fresh_watcher}
use Rattle.bg_protocol.specs.Worlds.Calls.{NoCalls, WatcherTakes}
use Rattle.bg_protocol.specs.Devices.LinkCalls.{FollowerTakeCalls, FollowerTickCalls}
use Rattle.bg_protocol.specs.Worlds.Nodes.{RefereeNodeDues, RefereeNodeRestarts, RefereeNodeSaves, RefereeNodeTakes, RefereeNodeTicks, RefereeNodeView}
use Rattle.bg_protocol.specs.Worlds.Nodes.{SeatNodeChooses, SeatNodeRestarts, SeatNodeSaves, SeatNodeTakes, SeatNodeTicks, SeatNodeView}
use Rattle.bg_protocol.specs.Protocol.Roles.{role}
use Rattle.bg_protocol.specs.Worlds.Views.{KeeperView, LinkView, WorldView, parties, seat_core, seat_keeper, with_seat_core}
use Rattle.bg_protocol.specs.Worlds.Views.{with_seat_keeper}
use Rattle.bg_protocol.specs.declared.events.Event.{Event}
use Rattle.bg_protocol.specs.declared.events.Event.TheVariants as events
use Rattle.bg_protocol.specs.declared.events.Outcome.{Outcome}
use Rattle.bg_protocol.specs.declared.events.Outcome.TheVariants as outcomes
use Rattle.bg_protocol.specs.declared.roles.Role.{Role}
use Rattle.bg_protocol.specs.declared.roles.Role.TheVariants as roles

-- ---- the nodes of a world

abbrev pub referee_node : WorldView → RefereeNodeView
referee_node w = record { id = w.id; terms = w.terms; core = w.referee }

abbrev pub with_referee_node : WorldView → RefereeNodeView → WorldView
with_referee_node w n = record w { referee = n.core }

abbrev pub seat_node : WorldView → Player → SeatNodeView
seat_node w player = record { player = player; id = w.id; terms = w.terms; core = seat_core w player }

abbrev pub with_seat_node : WorldView → Player → SeatNodeView → WorldView
with_seat_node w player n = with_seat_core w player n.core

-- ---- one event: the node that it names makes its call over the link, and all else stays

abbrev pub NodeTakes : Type 0 → WorldView → Role → ℕ → ℕ → ℕ → Outcome → WorldView → Type 0
NodeTakes honest w roles.Referee party pick word o v =
    (link : LinkView) × (node : RefereeNodeView)
    × RefereeNodeTakes honest (parties w) w.link (referee_node w) pick word o link node
    × (v ≡ with_referee_node (record w { link = link }) node)
NodeTakes honest w (roles.Seat player) party pick word o v =
    (link : LinkView) × (node : SeatNodeView) × SeatNodeTakes honest w.link (seat_node w player) pick o link node
    × (v ≡ with_seat_node (record w { link = link }) player node)
NodeTakes honest w (roles.Watcher index) party pick word o v =
    MatchOption (slice_get w.watchers index) (NoCalls outcomes.NoSuchParty w o v)
    (λ core. (link : LinkView) × (after : WatcherView)
    × FollowerTakeCalls WatcherTakes honest party w.link core pick o link after
    × (v ≡ record w { link = link; watchers = slice_set w.watchers index after }))

abbrev pub NodeTicks : Type 0 → WorldView → Role → Outcome → WorldView → Type 0
NodeTicks honest w roles.Referee o v =
    (link : LinkView) × (node : RefereeNodeView)
    × RefereeNodeTicks honest (parties w) w.link (referee_node w) o link node
    × (v ≡ with_referee_node (record w { link = link }) node)
NodeTicks honest w (roles.Seat player) o v =
    (link : LinkView) × (node : SeatNodeView)
    × SeatNodeTicks honest (parties w) w.link (seat_node w player) o link node
    × (v ≡ with_seat_node (record w { link = link }) player node)
NodeTicks honest w (roles.Watcher index) o v =
    MatchOption (slice_get w.watchers index) (NoCalls outcomes.NoSuchParty w o v)
    (λ core. (link : LinkView) × (after : WatcherView)
    × FollowerTickCalls WatcherTicks honest (parties w) w.link core o link after
    × (v ≡ record w { link = link; watchers = slice_set w.watchers index after }))

abbrev pub NodeSaves : Type 0 → WorldView → Role → Outcome → WorldView → Type 0
NodeSaves honest w roles.Referee o v =
    (keeper : KeeperView) × (node : RefereeNodeView)
    × RefereeNodeSaves honest w.referee_keeper (referee_node w) o keeper node
    × (v ≡ with_referee_node (record w { referee_keeper = keeper }) node)
NodeSaves honest w (roles.Seat player) o v =
    (keeper : KeeperView) × (node : SeatNodeView)
    × SeatNodeSaves honest (seat_keeper w player) (seat_node w player) o keeper node
    × (v ≡ with_seat_node (with_seat_keeper w player keeper) player node)
NodeSaves honest w (roles.Watcher index) o v = NoCalls outcomes.NoSuchParty w o v

abbrev pub NodeRestarts : Type 0 → WorldView → Role → ℕ → Outcome → WorldView → Type 0
NodeRestarts honest w roles.Referee party o v =
    (keeper : KeeperView) × (node : RefereeNodeView)
    × RefereeNodeRestarts honest w.referee_keeper (referee_node w) o keeper node
    × (v ≡ with_referee_node (record w { referee_keeper = keeper }) node)
NodeRestarts honest w (roles.Seat player) party o v =
    (keeper : KeeperView) × (node : SeatNodeView)
    × SeatNodeRestarts honest (seat_keeper w player) (seat_node w player) o keeper node
    × (v ≡ with_seat_node (with_seat_keeper w player keeper) player node)
NodeRestarts honest w (roles.Watcher index) party o v =
    MatchOption (slice_get w.watchers index) (NoCalls outcomes.NoSuchParty w o v)
    (λ core. (o ≡ outcomes.Restarted)
    × (v ≡ record w { watchers = slice_set w.watchers index (fresh_watcher party w.id w.terms) }))

abbrev pub NodeCalls : Type 0 → Type 0 → WorldView → Event → Outcome → WorldView → Type 0
NodeCalls link keepers w (events.Due word) o v =
    (node : RefereeNodeView) × RefereeNodeDues (referee_node w) word o node × (v ≡ with_referee_node w node)
NodeCalls link keepers w (events.Take party pick word) o v = NodeTakes link w (role party) party pick word o v
NodeCalls link keepers w (events.Choose player action) o v =
    (node : SeatNodeView) × SeatNodeChooses (seat_node w player) action o node × (v ≡ with_seat_node w player node)
NodeCalls link keepers w (events.Save party) o v = NodeSaves keepers w (role party) o v
NodeCalls link keepers w (events.Tick party) o v = NodeTicks link w (role party) o v
NodeCalls link keepers w (events.Restart party) o v = NodeRestarts keepers w (role party) party o v

-- ---- many, in any order

-- the devices of another process, or of another life of it: they count its own calls, and have
-- failures of their own, while the datagrams that were ever sent are common to all, and the slots
-- have what was written to them
pub record AreSeenAs (w : WorldView) (link : LinkView) (referee x o : KeeperView) : Type 0 where
  pub datagrams : link.sent ≡ w.link.sent
  pub referee_slots : referee.slots ≡ w.referee_keeper.slots
  pub x_slots : x.slots ≡ w.x_keeper.slots
  pub o_slots : o.slots ≡ w.o_keeper.slots

-- the same parties over such devices
abbrev pub over_devices : WorldView → LinkView → KeeperView → KeeperView → KeeperView → WorldView
over_devices w link referee x o =
    record w { link = link; referee_keeper = referee; x_keeper = x; o_keeper = o }

-- the calls of the events, each by the process of the party that it names, over an honest network
-- and honest keepers
abbrev pub Interleaves : WorldView → List Event → List Outcome → WorldView → Type 0
Interleaves old [] [] new = new ≡ old
Interleaves old (event ∷ events) (outcome ∷ outcomes) new =
    (link : LinkView) × (referee : KeeperView) × (x : KeeperView) × (o : KeeperView) × (mid : WorldView)
    × AreSeenAs old link referee x o
    × NodeCalls ⊤ ⊤ (over_devices old link referee x o) event outcome mid × Interleaves mid events outcomes new
Interleaves old _ _ new = ⊥
