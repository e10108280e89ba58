-- The calls of nodes over one network and one store, and runs of them.
use Rattle.std.specs.Prelude.{◌≡◌, ℕ, ◌+◌, ◌<◌, ⊤, Option, None, List, [], ◌∷◌, replicate, Contains}
use Rattle.bg_board.specs.declared.players.Player.{Player}
use Rattle.bg_match.specs.Terms.{Terms}
use Rattle.bg_party.specs.Claims.{WatcherTicks}
use Rattle.bg_party.specs.Views.{SeatView, WatcherView, fresh_watcher}
use Rattle.bg_referee.specs.Referee.{RefereeView}
use Rattle.bg_wire.specs.Entries.Codes.{first_watcher}
use Rattle.bg_wire.specs.Saved.SlotLaws.{Slots}
use Rattle.bg_protocol.specs.Devices.LinkCalls.{FollowerTakeCalls, FollowerTickCalls}
use Rattle.bg_protocol.specs.Protocol.Roles.{role}
use Rattle.bg_protocol.specs.Protocol.Slots.{empty_slots}
use Rattle.bg_protocol.specs.Protocol.State.{IsSetup}
use Rattle.bg_protocol.specs.Worlds.Calls.{WatcherTakes}
use Rattle.bg_protocol.specs.Worlds.Nodes.{RefereeNodeDues, RefereeNodeRestarts, RefereeNodeSaves}
use Rattle.bg_protocol.specs.Worlds.Nodes.{RefereeNodeTakes, RefereeNodeTicks, RefereeNodeView}
use Rattle.bg_protocol.specs.Worlds.Nodes.{SeatNodeChooses, SeatNodeRestarts, SeatNodeSaves}
use Rattle.bg_protocol.specs.Worlds.Nodes.{SeatNodeTakes, SeatNodeTicks, SeatNodeView}
use Rattle.bg_protocol.specs.Worlds.Views.{KeeperView, LinkView}
use Rattle.bg_protocol.specs.declared.events.Event.{Event}
use Rattle.bg_protocol.specs.declared.events.Event.TheVariants as events
use Rattle.bg_protocol.specs.declared.events.Outcome.{Outcome}
use Rattle.bg_protocol.specs.declared.events.Outcome.TheVariants as outcomes
use Rattle.bg_protocol.specs.declared.roles.Role.{Role}
use Rattle.bg_protocol.specs.declared.roles.Role.TheVariants as roles
use Rattle.bg_fences.specs.SharedMatches.{Becomes}
use Rattle.bg_fences.specs.SharedNodes.{SharedNodes, IsFencedAt, referee_number, seat_number}
use Rattle.bg_fences.specs.SharedNodes.{slots_of, cores_of, with_seat_nodes, all_parties}

-- ---- a call of some node of a party: by itself; over a link that has the datagrams which all
-- ---- share; and over a keeper that has the slots which all share

abbrev pub referee_with : SharedNodes → Option RefereeView → RefereeNodeView
referee_with m core = record { id = m.id; terms = m.terms; core = core }

abbrev pub seat_with : SharedNodes → Player → Option SeatView → SeatNodeView
seat_with m q core = record { player = q; id = m.id; terms = m.terms; core = core }

abbrev pub RefereeAlone : SharedNodes → (RefereeNodeView → RefereeNodeView → Type 0) → SharedNodes →
    Type 0
RefereeAlone m Makes n =
    (core : Option RefereeView) × (after : RefereeNodeView) × (cores : List (Option RefereeView))
    × Makes (referee_with m core) after × Becomes m.referees core (after.core ∷ []) cores
    × (n ≡ record m { referees = cores })

abbrev pub RefereeOverLink : SharedNodes
    → (LinkView → RefereeNodeView → LinkView → RefereeNodeView → Type 0) → SharedNodes → Type 0
RefereeOverLink m Makes n =
    (core : Option RefereeView) × (old : LinkView) × (new : LinkView)
    × (after : RefereeNodeView) × (cores : List (Option RefereeView))
    × (old.sent ≡ m.sent) × Makes old (referee_with m core) new after
    × Becomes m.referees core (after.core ∷ []) cores
    × (n ≡ record m { referees = cores; sent = new.sent })

abbrev pub RefereeOverStore : SharedNodes
    → (KeeperView → RefereeNodeView → KeeperView → RefereeNodeView → Type 0) → SharedNodes → Type 0
RefereeOverStore m Makes n =
    (core : Option RefereeView) × (old : KeeperView) × (new : KeeperView)
    × (after : RefereeNodeView) × (cores : List (Option RefereeView))
    × (old.slots ≡ m.referee_slots) × Makes old (referee_with m core) new after
    × Becomes m.referees core (after.core ∷ []) cores
    × (n ≡ record m { referees = cores; referee_slots = new.slots })

abbrev pub SeatAlone : SharedNodes → Player → (SeatNodeView → SeatNodeView → Type 0) → SharedNodes →
    Type 0
SeatAlone m q Makes n =
    (core : Option SeatView) × (after : SeatNodeView) × (cores : List (Option SeatView))
    × Makes (seat_with m q core) after × Becomes (cores_of m q) core (after.core ∷ []) cores
    × (n ≡ with_seat_nodes m q cores (slots_of m q))

abbrev pub SeatOverLink : SharedNodes → Player
    → (LinkView → SeatNodeView → LinkView → SeatNodeView → Type 0) → SharedNodes → Type 0
SeatOverLink m q Makes n =
    (core : Option SeatView) × (old : LinkView) × (new : LinkView)
    × (after : SeatNodeView) × (cores : List (Option SeatView))
    × (old.sent ≡ m.sent) × Makes old (seat_with m q core) new after
    × Becomes (cores_of m q) core (after.core ∷ []) cores
    × (n ≡ record (with_seat_nodes m q cores (slots_of m q)) { sent = new.sent })

abbrev pub SeatOverStore : SharedNodes → Player
    → (KeeperView → SeatNodeView → KeeperView → SeatNodeView → Type 0) → SharedNodes → Type 0
SeatOverStore m q Makes n =
    (core : Option SeatView) × (old : KeeperView) × (new : KeeperView)
    × (after : SeatNodeView) × (cores : List (Option SeatView))
    × (old.slots ≡ slots_of m q) × Makes old (seat_with m q core) new after
    × Becomes (cores_of m q) core (after.core ∷ []) cores
    × (n ≡ with_seat_nodes m q cores new.slots)

abbrev pub WatcherOverLink : SharedNodes → ℕ
    → (LinkView → WatcherView → LinkView → WatcherView → Type 0) → SharedNodes → Type 0
WatcherOverLink m index Makes n =
    (core : WatcherView) × (old : LinkView) × (new : LinkView) × (after : WatcherView)
    × (cores : List WatcherView) × (core.party ≡ first_watcher + index)
    × (old.sent ≡ m.sent) × Makes old core new after × Becomes m.watching core (after ∷ []) cores
    × (n ≡ record m { watching = cores; sent = new.sent })

-- ---- each event: the node makes the call that it makes over honest devices

abbrev pub NodeTakes : SharedNodes → Role → ℕ → ℕ → Outcome → SharedNodes → Type 0
NodeTakes m roles.Referee pick word o n =
    RefereeOverLink m
    (λ old node new after. RefereeNodeTakes ⊤ (all_parties m) old node pick word o new after) n
NodeTakes m (roles.Seat q) pick word o n =
    SeatOverLink m q (λ old node new after. SeatNodeTakes ⊤ old node pick o new after) n
NodeTakes m (roles.Watcher index) pick word o n =
    WatcherOverLink m index
    (λ old core new after.
    FollowerTakeCalls WatcherTakes ⊤ (first_watcher + index) old core pick o new after) n

-- a save goes through the fence
abbrev pub NodeSaves : SharedNodes → Role → Outcome → SharedNodes → Type 0
NodeSaves m roles.Referee o n =
    RefereeOverStore m
    (λ old node new after. RefereeNodeSaves ⊤ old node o new after
    × IsFencedAt old.slots (referee_number node.core) o new.slots) n
NodeSaves m (roles.Seat q) o n =
    SeatOverStore m q
    (λ old node new after. SeatNodeSaves ⊤ old node o new after
    × IsFencedAt old.slots (seat_number node.core) o new.slots) n
NodeSaves m (roles.Watcher index) o n = n ≡ m

abbrev pub NodeTicks : SharedNodes → Role → Outcome → SharedNodes → Type 0
NodeTicks m roles.Referee o n =
    RefereeOverLink m
    (λ old node new after. RefereeNodeTicks ⊤ (all_parties m) old node o new after) n
NodeTicks m (roles.Seat q) o n =
    SeatOverLink m q (λ old node new after. SeatNodeTicks ⊤ (all_parties m) old node o new after) n
NodeTicks m (roles.Watcher index) o n =
    WatcherOverLink m index
    (λ old core new after. FollowerTickCalls WatcherTicks ⊤ (all_parties m) old core o new after) n

-- A restart reads slot 0 as it was at one of these moments, and slot 1 as it was at one, whichever
-- of the two is the later. So other nodes may save between the two reads, and what is read may lag
-- behind.
abbrev pub AreReadOf : {M : Type 0} → (M → Slots) → List M → Slots → Type 0
AreReadOf {M} slots moments read =
    (a : M) × (b : M) × Contains moments a × Contains moments b
    × (read ≡ record { zero = (slots a).zero; one = (slots b).one })

-- a node begins, or begins again, and the store stays; a watcher is one node more
abbrev pub NodeRestarts : List SharedNodes → SharedNodes → Role → Outcome → SharedNodes → Type 0
NodeRestarts moments m roles.Referee o n =
    (core : Option RefereeView) × (old : KeeperView) × (new : KeeperView)
    × (after : RefereeNodeView) × (cores : List (Option RefereeView))
    × AreReadOf (λ past. past.referee_slots) moments old.slots
    × RefereeNodeRestarts ⊤ old (referee_with m core) o new after
    × Becomes m.referees core (after.core ∷ []) cores
    × (n ≡ record m { referees = cores })
NodeRestarts moments m (roles.Seat q) o n =
    (core : Option SeatView) × (old : KeeperView) × (new : KeeperView)
    × (after : SeatNodeView) × (cores : List (Option SeatView))
    × AreReadOf (λ past. slots_of past q) moments old.slots
    × SeatNodeRestarts ⊤ old (seat_with m q core) o new after
    × Becomes (cores_of m q) core (after.core ∷ []) cores
    × (n ≡ with_seat_nodes m q cores (slots_of m q))
NodeRestarts moments m (roles.Watcher index) o n =
    (o ≡ outcomes.Restarted) × (index < m.watchers)
    × (n ≡ record m {
      watching = fresh_watcher (first_watcher + index) m.id m.terms ∷ m.watching;
    })

-- some node of the party that the event names makes the call that the event is; the moments are
-- those of the match so far, this one too
abbrev pub NodeActs : List SharedNodes → SharedNodes → Event → Outcome → SharedNodes → Type 0
NodeActs moments m (events.Due word) o n =
    RefereeAlone m (λ node after. RefereeNodeDues node word o after) n
NodeActs moments m (events.Take party pick word) o n = NodeTakes m (role party) pick word o n
NodeActs moments m (events.Choose q action) o n =
    SeatAlone m q (λ node after. SeatNodeChooses node action o after) n
NodeActs moments m (events.Save party) o n = NodeSaves m (role party) o n
NodeActs moments m (events.Tick party) o n = NodeTicks m (role party) o n
NodeActs moments m (events.Restart party) o n = NodeRestarts moments m (role party) o n

-- ---- runs

-- the start of a match: the store is empty, nothing was sent, and of each party that saves there
-- are so many nodes, none of which has begun
abbrev pub no_node_begun : ℕ → Terms → ℕ → ℕ → ℕ → ℕ → SharedNodes
no_node_begun id terms watchers referees xs os = record {
  id = id;
  terms = terms;
  watchers = watchers;
  referee_slots = empty_slots;
  x_slots = empty_slots;
  o_slots = empty_slots;
  sent = [];
  referees = replicate referees None;
  xs = replicate xs None;
  os = replicate os None;
  watching = [];
}

-- calls with what they came to, each from what the one before left; these moments were before them
abbrev pub NodesRun : List SharedNodes → SharedNodes → List (Event × Outcome) → SharedNodes →
    Type 0
NodesRun before m [] n = n ≡ m
NodesRun before m (h ∷ hs) n =
    (k : SharedNodes) × NodeActs (m ∷ before) m h.0 h.1 k × NodesRun (m ∷ before) k hs n

-- some calls lead there from the start of some match, with some numbers of nodes
pub record IsReachedByNodes (m : SharedNodes) : Type 0 where
  pub id : ℕ
  pub terms : Terms
  pub watchers : ℕ
  pub setup : IsSetup id terms watchers
  pub referees : ℕ
  pub xs : ℕ
  pub os : ℕ
  pub history : List (Event × Outcome)
  pub run : NodesRun [] (no_node_begun id terms watchers referees xs os) history m
