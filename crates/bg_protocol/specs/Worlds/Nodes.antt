-- A party by itself, as contracts see it, and the calls that it makes.
use Rattle.std.specs.Prelude.{◌≡◌, ◌+◌, ℕ, List, None, Option, Some, Result, MatchOption, slice_get, slice_set}
use Rattle.bg_board.specs.declared.players.Player.{Player}
use Rattle.bg_match.specs.Terms.{Terms}
use Rattle.bg_match.specs.declared.actions.Action.{Action}
use Rattle.bg_wire.specs.Entries.Codes.{first_watcher, referee}
use Rattle.bg_wire.specs.Parties.{party_of}
use Rattle.bg_referee.specs.Dues.{RefereeDues}
use Rattle.bg_referee.specs.Referee.{RefereeView, fresh_referee, referee_after_save, resumed_referee}
use Rattle.bg_referee.specs.declared.outcomes.DueFault.{DueFault}
use Rattle.bg_party.specs.Claims.{SeatChooses, SeatTicks, WatcherTicks}
use Rattle.bg_party.specs.Views.{SeatView, WatcherView, fresh_seat, fresh_watcher, resumed_seat, seat_after_save}
use Rattle.bg_party.specs.declared.outcomes.ChooseFault.{ChooseFault}
use Rattle.bg_protocol.specs.Worlds.Calls.{SeatTakes, WatcherTakes, referee_parts, seat_parts}
use Rattle.bg_protocol.specs.Devices.KeeperCalls.{EndsSave, RestartCallsAt, SaveCallsAt}
use Rattle.bg_protocol.specs.Devices.LinkCalls.{FollowerTakeCalls, FollowerTickCalls, RefereeTakeCalls, RefereeTickCalls}
use Rattle.bg_protocol.specs.Worlds.Views.{KeeperView, LinkView}
use Rattle.bg_protocol.specs.declared.devices.DeviceFault.{DeviceFault}
use Rattle.bg_protocol.specs.declared.events.Outcome.{Outcome}
use Rattle.bg_protocol.specs.declared.events.Outcome.TheVariants as outcomes
use Rattle.bg_protocol.specs.declared.nodes.referee.RefereeNode.{RefereeNode}
use Rattle.bg_protocol.specs.declared.nodes.seat.SeatNode.{SeatNode}

-- ---- the referee's node: its match, and its core while it is up

pub record RefereeNodeView : Type 0 where
  pub id : ℕ
  pub terms : Terms
  pub core : Option RefereeView

abbrev pub referee_node_of : RefereeNode → RefereeNodeView
referee_node_of n = record { id = n.id; terms = n.terms; core = n.core }

-- up, in a match with no entry
abbrev pub fresh_referee_node : ℕ → Terms → RefereeNodeView
fresh_referee_node id terms = record { id = id; terms = terms; core = Some (fresh_referee id terms) }

-- it opens a game, or passes a turn
abbrev pub RefereeNodeDues : RefereeNodeView → ℕ → Outcome → RefereeNodeView → Type 0
RefereeNodeDues old word result new =
    MatchOption old.core ((result ≡ outcomes.Down) × (new ≡ old))
    (λ core. (answer : Result ℕ DueFault) × (after : RefereeView) × RefereeDues core word answer after
    × (result ≡ outcomes.Due answer) × (new ≡ record old { core = Some after }))

-- it takes what the link gives for this pick, and its answer is sent; so many parties exist, from 0
abbrev pub RefereeNodeTakes : Type 0 → ℕ → LinkView → RefereeNodeView → ℕ → ℕ → Outcome → LinkView → RefereeNodeView →
    Type 0
RefereeNodeTakes honest parties old_link old pick word result new_link new =
    MatchOption old.core ((result ≡ outcomes.Down) × (new_link ≡ old_link) × (new ≡ old))
    (λ core. (after : RefereeView) × RefereeTakeCalls honest parties old_link core pick word result new_link after
    × (new ≡ record old { core = Some after }))

-- it sends what its core gives
abbrev pub RefereeNodeTicks : Type 0 → ℕ → LinkView → RefereeNodeView → Outcome → LinkView → RefereeNodeView → Type 0
RefereeNodeTicks honest parties old_link old result new_link new =
    MatchOption old.core ((result ≡ outcomes.Down) × (new_link ≡ old_link) × (new ≡ old))
    (λ core. (after : RefereeView) × RefereeTickCalls honest parties old_link core result new_link after
    × (new ≡ record old { core = Some after }))

-- it saves
abbrev pub RefereeNodeSaves : Type 0 → KeeperView → RefereeNodeView → Outcome → KeeperView → RefereeNodeView → Type 0
RefereeNodeSaves honest old_keeper old result new_keeper new =
    SaveCallsAt referee_parts referee_after_save honest old_keeper old.core result new_keeper new.core
    × (new ≡ record old { core = new.core })

-- its save of this number is ended, whose write had this answer
abbrev pub RefereeNodeEndsSave : RefereeNodeView → ℕ → Result (Unit {0}) DeviceFault → Outcome → RefereeNodeView → Type 0
RefereeNodeEndsSave old save answer result new =
    EndsSave referee_after_save old.core save answer result new.core × (new ≡ record old { core = new.core })

-- it comes back with what its slots restore
abbrev pub RefereeNodeRestarts : Type 0 → KeeperView → RefereeNodeView → Outcome → KeeperView → RefereeNodeView → Type 0
RefereeNodeRestarts honest old_keeper old result new_keeper new =
    RestartCallsAt resumed_referee (fresh_referee old.id old.terms) honest referee old.id old.terms old_keeper result
    new_keeper new.core
    × (new ≡ record old { core = new.core })

-- ---- the node of a seat: also its player

pub record SeatNodeView : Type 0 where
  pub player : Player
  pub id : ℕ
  pub terms : Terms
  pub core : Option SeatView

abbrev pub seat_node_of : SeatNode → SeatNodeView
seat_node_of n = record { player = n.player; id = n.id; terms = n.terms; core = n.core }

abbrev pub fresh_seat_node : Player → ℕ → Terms → SeatNodeView
fresh_seat_node player id terms =
    record { player = player; id = id; terms = terms; core = Some (fresh_seat player id terms) }

-- it claims what its player chooses
abbrev pub SeatNodeChooses : SeatNodeView → Action → Outcome → SeatNodeView → Type 0
SeatNodeChooses old action result new =
    MatchOption old.core ((result ≡ outcomes.Down) × (new ≡ old))
    (λ core. (answer : Result ℕ ChooseFault) × (after : SeatView) × SeatChooses core action answer after
    × (result ≡ outcomes.Chose answer) × (new ≡ record old { core = Some after }))

abbrev pub SeatNodeTakes : Type 0 → LinkView → SeatNodeView → ℕ → Outcome → LinkView → SeatNodeView → Type 0
SeatNodeTakes honest old_link old pick result new_link new =
    MatchOption old.core ((result ≡ outcomes.Down) × (new_link ≡ old_link) × (new ≡ old))
    (λ core. (after : SeatView)
    × FollowerTakeCalls SeatTakes honest (party_of old.player) old_link core pick result new_link after
    × (new ≡ record old { core = Some after }))

abbrev pub SeatNodeTicks : Type 0 → ℕ → LinkView → SeatNodeView → Outcome → LinkView → SeatNodeView → Type 0
SeatNodeTicks honest parties old_link old result new_link new =
    MatchOption old.core ((result ≡ outcomes.Down) × (new_link ≡ old_link) × (new ≡ old))
    (λ core. (after : SeatView) × FollowerTickCalls SeatTicks honest parties old_link core result new_link after
    × (new ≡ record old { core = Some after }))

abbrev pub SeatNodeSaves : Type 0 → KeeperView → SeatNodeView → Outcome → KeeperView → SeatNodeView → Type 0
SeatNodeSaves honest old_keeper old result new_keeper new =
    SaveCallsAt seat_parts seat_after_save honest old_keeper old.core result new_keeper new.core
    × (new ≡ record old { core = new.core })

abbrev pub SeatNodeEndsSave : SeatNodeView → ℕ → Result (Unit {0}) DeviceFault → Outcome → SeatNodeView → Type 0
SeatNodeEndsSave old save answer result new =
    EndsSave seat_after_save old.core save answer result new.core × (new ≡ record old { core = new.core })

abbrev pub SeatNodeRestarts : Type 0 → KeeperView → SeatNodeView → Outcome → KeeperView → SeatNodeView → Type 0
SeatNodeRestarts honest old_keeper old result new_keeper new =
    RestartCallsAt resumed_seat (fresh_seat old.player old.id old.terms) honest (party_of old.player) old.id old.terms
    old_keeper result new_keeper new.core
    × (new ≡ record old { core = new.core })

-- the claim of a seat that is up
abbrev pub seat_claim : Option SeatView → Option (ℕ × Action)
seat_claim None = None
seat_claim (Some core) = core.claim

-- ---- the watchers of a world, each a node; the party of the one at an index is the first watcher's and so many more

abbrev pub WatchersTake : Type 0 → LinkView → List WatcherView → ℕ → ℕ → Outcome → LinkView → List WatcherView → Type 0
WatchersTake honest old_link old index pick result new_link new =
    MatchOption (slice_get old index) ((result ≡ outcomes.NoSuchParty) × (new_link ≡ old_link) × (new ≡ old))
    (λ core. (after : WatcherView)
    × FollowerTakeCalls WatcherTakes honest (first_watcher + index) old_link core pick result new_link after
    × (new ≡ slice_set old index after))

abbrev pub WatchersTick : Type 0 → ℕ → LinkView → List WatcherView → ℕ → Outcome → LinkView → List WatcherView → Type 0
WatchersTick honest parties old_link old index result new_link new =
    MatchOption (slice_get old index) ((result ≡ outcomes.NoSuchParty) × (new_link ≡ old_link) × (new ≡ old))
    (λ core. (after : WatcherView)
    × FollowerTickCalls WatcherTicks honest parties old_link core result new_link after
    × (new ≡ slice_set old index after))

-- it is fresh
abbrev pub WatchersRestart : ℕ → Terms → List WatcherView → ℕ → Outcome → List WatcherView → Type 0
WatchersRestart id terms old index result new =
    MatchOption (slice_get old index) ((result ≡ outcomes.NoSuchParty) × (new ≡ old))
    (λ core. (result ≡ outcomes.Restarted)
    × (new ≡ slice_set old index (fresh_watcher (first_watcher + index) id terms)))
