-- The calls that one event makes on a world, and no others: of the link, of the keepers and of the
-- cores.
use Rattle.std.specs.Prelude.{◌≡◌, ℕ, None, Option, Some, Result, MatchOption, slice_get, slice_set}
use Rattle.bg_board.specs.declared.players.Player.{Player}
use Rattle.bg_match.specs.declared.actions.Action.{Action}
use Rattle.bg_wire.specs.Entries.Codes.{referee}
use Rattle.bg_wire.specs.Parties.{party_of}
use Rattle.bg_wire.specs.Saved.SavedText.{SavedParts, parts_with}
use Rattle.bg_referee.specs.Dues.{RefereeDues}
use Rattle.bg_referee.specs.Referee.{RefereeView, fresh_referee, referee_after_save, resumed_referee}
use Rattle.bg_referee.specs.declared.outcomes.DueFault.{DueFault}
use Rattle.bg_party.specs.Claims.{SeatChooses, SeatTicks, WatcherTicks}
use Rattle.bg_party.specs.Takes.{FollowerTakes}
use Rattle.bg_party.specs.Views.{SeatView, WatcherView, fresh_seat, fresh_watcher, resumed_seat, seat_after_save}
use Rattle.bg_party.specs.declared.outcomes.ChooseFault.{ChooseFault}
use Rattle.bg_party.specs.declared.outcomes.Learned.{Learned}
use Rattle.bg_wire.specs.declared.packets.Packet.{Packet}
use Rattle.bg_protocol.specs.Devices.KeeperCalls.{RestartCallsAt, SaveCallsAt}
use Rattle.bg_protocol.specs.Devices.LinkCalls.{FollowerTakeCalls, FollowerTickCalls, RefereeTakeCalls, RefereeTickCalls}
use Rattle.bg_protocol.specs.Protocol.Roles.{role}
use Rattle.bg_protocol.specs.Worlds.Views.{KeeperView, LinkView, WorldView, parties, seat_core, seat_keeper, with_seat_core}
use Rattle.bg_protocol.specs.Worlds.Views.{with_seat_keeper}
use Rattle.bg_protocol.specs.declared.events.Event.{Event}
use Rattle.bg_protocol.specs.declared.events.Event.TheVariants as events
use Rattle.bg_protocol.specs.declared.events.Outcome.{Outcome}
use Rattle.bg_protocol.specs.declared.events.Outcome.TheVariants as outcomes
use Rattle.bg_protocol.specs.declared.roles.Role.{Role}
use Rattle.bg_protocol.specs.declared.roles.Role.TheVariants as roles

-- no call is made
abbrev pub NoCalls : Outcome → WorldView → Outcome → WorldView → Type 0
NoCalls due old result new = (result ≡ due) × (new ≡ old)

-- the referee opens a game, or passes a turn
abbrev pub DueCalls : WorldView → ℕ → Outcome → WorldView → Type 0
DueCalls old word result new =
    MatchOption old.referee (NoCalls outcomes.Down old result new)
    (λ core. (answer : Result ℕ DueFault) × (after : RefereeView) × RefereeDues core word answer after
    × (result ≡ outcomes.Due answer) × (new ≡ record old { referee = Some after }))

-- what a seat's and a watcher's core make of a packet
pub record SeatTakes (old : SeatView) (p : Packet) (learned : Learned) (new : SeatView) : Type 0 where
  pub takes : FollowerTakes old.follower p learned new.follower
  pub same : new ≡ record old { follower = new.follower }

pub record WatcherTakes (old : WatcherView) (p : Packet) (learned : Learned) (new : WatcherView) : Type 0 where
  pub takes : FollowerTakes old.follower p learned new.follower
  pub same : new ≡ record old { follower = new.follower }

-- a party takes what the link gives for this pick
abbrev pub TakeCalls : Type 0 → WorldView → Role → ℕ → ℕ → ℕ → Outcome → WorldView → Type 0
TakeCalls honest old roles.Referee party pick word result new =
    MatchOption old.referee (NoCalls outcomes.Down old result new)
    (λ core. (link : LinkView) × (after : RefereeView)
    × RefereeTakeCalls honest (parties old) old.link core pick word result link after
    × (new ≡ record old { link = link; referee = Some after }))
TakeCalls honest old (roles.Seat player) party pick word result new =
    MatchOption (seat_core old player) (NoCalls outcomes.Down old result new)
    (λ core. (link : LinkView) × (after : SeatView)
    × FollowerTakeCalls SeatTakes honest party old.link core pick result link after
    × (new ≡ with_seat_core (record old { link = link }) player (Some after)))
TakeCalls honest old (roles.Watcher index) party pick word result new =
    MatchOption (slice_get old.watchers index) (NoCalls outcomes.NoSuchParty old result new)
    (λ core. (link : LinkView) × (after : WatcherView)
    × FollowerTakeCalls WatcherTakes honest party old.link core pick result link after
    × (new ≡ record old { link = link; watchers = slice_set old.watchers index after }))

-- a seat claims what its player chooses
abbrev pub ChooseCalls : WorldView → Player → Action → Outcome → WorldView → Type 0
ChooseCalls old player action result new =
    MatchOption (seat_core old player) (NoCalls outcomes.Down old result new)
    (λ core. (answer : Result ℕ ChooseFault) × (after : SeatView) × SeatChooses core action answer after
    × (result ≡ outcomes.Chose answer) × (new ≡ with_seat_core old player (Some after)))

-- what the next save of the referee, and of a seat, tells
abbrev pub referee_parts : RefereeView → SavedParts
referee_parts core = parts_with referee core.next_save None core.log

abbrev pub seat_parts : SeatView → SavedParts
seat_parts core = parts_with (party_of core.player) core.next_save core.claim core.follower.log

-- the referee or a seat saves
abbrev pub SaveCalls : Type 0 → WorldView → Role → Outcome → WorldView → Type 0
SaveCalls honest old roles.Referee result new =
    (keeper : KeeperView) × (after : Option RefereeView)
    × SaveCallsAt referee_parts referee_after_save honest old.referee_keeper old.referee result keeper after
    × (new ≡ record old { referee_keeper = keeper; referee = after })
SaveCalls honest old (roles.Seat player) result new =
    (keeper : KeeperView) × (after : Option SeatView)
    × SaveCallsAt seat_parts seat_after_save honest (seat_keeper old player) (seat_core old player) result keeper after
    × (new ≡ with_seat_keeper (with_seat_core old player after) player keeper)
SaveCalls honest old (roles.Watcher index) result new = NoCalls outcomes.NoSuchParty old result new

-- a party sends what its core gives
abbrev pub TickCalls : Type 0 → WorldView → Role → Outcome → WorldView → Type 0
TickCalls honest old roles.Referee result new =
    MatchOption old.referee (NoCalls outcomes.Down old result new)
    (λ core. (link : LinkView) × (after : RefereeView)
    × RefereeTickCalls honest (parties old) old.link core result link after
    × (new ≡ record old { link = link; referee = Some after }))
TickCalls honest old (roles.Seat player) result new =
    MatchOption (seat_core old player) (NoCalls outcomes.Down old result new)
    (λ core. (link : LinkView) × (after : SeatView)
    × FollowerTickCalls SeatTicks honest (parties old) old.link core result link after
    × (new ≡ with_seat_core (record old { link = link }) player (Some after)))
TickCalls honest old (roles.Watcher index) result new =
    MatchOption (slice_get old.watchers index) (NoCalls outcomes.NoSuchParty old result new)
    (λ core. (link : LinkView) × (after : WatcherView)
    × FollowerTickCalls WatcherTicks honest (parties old) old.link core result link after
    × (new ≡ record old { link = link; watchers = slice_set old.watchers index after }))

-- a party comes back with what its slots restore, whether it was up or down; a watcher is fresh
abbrev pub RestartCalls : Type 0 → WorldView → Role → ℕ → Outcome → WorldView → Type 0
RestartCalls honest old roles.Referee party result new =
    (keeper : KeeperView) × (after : Option RefereeView)
    × RestartCallsAt resumed_referee (fresh_referee old.id old.terms) honest referee old.id old.terms old.referee_keeper
    result keeper after
    × (new ≡ record old { referee_keeper = keeper; referee = after })
RestartCalls honest old (roles.Seat player) party result new =
    (keeper : KeeperView) × (after : Option SeatView)
    × RestartCallsAt resumed_seat (fresh_seat player old.id old.terms) honest (party_of player) old.id old.terms
    (seat_keeper old player) result keeper after
    × (new ≡ with_seat_keeper (with_seat_core old player after) player keeper)
RestartCalls honest old (roles.Watcher index) party result new =
    MatchOption (slice_get old.watchers index) (NoCalls outcomes.NoSuchParty old result new)
    (λ core. (result ≡ outcomes.Restarted)
    × (new ≡ record old { watchers = slice_set old.watchers index (fresh_watcher party old.id old.terms) }))

-- an event makes exactly these calls, on devices that may be honest or not
abbrev pub Calls : Type 0 → Type 0 → WorldView → Event → Outcome → WorldView → Type 0
Calls link_honest keepers_honest old (events.Due word) result new = DueCalls old word result new
Calls link_honest keepers_honest old (events.Take party pick word) result new =
    TakeCalls link_honest old (role party) party pick word result new
Calls link_honest keepers_honest old (events.Choose player action) result new = ChooseCalls old player action result new
Calls link_honest keepers_honest old (events.Save party) result new =
    SaveCalls keepers_honest old (role party) result new
Calls link_honest keepers_honest old (events.Tick party) result new = TickCalls link_honest old (role party) result new
Calls link_honest keepers_honest old (events.Restart party) result new =
    RestartCalls keepers_honest old (role party) party result new
