-- The processes of a match, over honest devices, are an instance of the law of processes: in a
-- world of 256 parties.
use Rattle.std.specs.Prelude.{◌≡◌, ◌+◌, ℕ, List, Some, map, slice_get}
use Rattle.bg_board.specs.declared.players.Player.{Player}
use Rattle.bg_wire.specs.Entries.Codes.{first_watcher}
use Rattle.bg_protocol.specs.Worlds.Interleavings.{Interleaves, referee_node, seat_node}
use Rattle.bg_protocol.specs.Worlds.Views.{WorldView, parties, seat_core, seat_keeper}
use Rattle.bg_protocol.specs.declared.events.Event.{Event}
use Rattle.bg_protocol.specs.declared.events.Outcome.{Outcome}
use Rattle.bg_protocol.specs.declared.roles.Role.{Role}
use Rattle.bg_protocol.specs.declared.roles.Role.TheVariants as roles
use Rattle.bg_processes.specs.RefereeRounds.{RefereeMoment}
use Rattle.bg_processes.specs.Rounds.{most_parties}
use Rattle.bg_processes.specs.Runs.{Runs}
use Rattle.bg_processes.specs.SeatRounds.{SeatMoment}
use Rattle.bg_processes.specs.WatcherRounds.{WatcherMoment}

-- ---- a process runs a party of a world, over devices of its own: what was ever sent, and what the slots have, is common

pub record RunsReferee (w : WorldView) (at : RefereeMoment) : Type 0 where
  pub node : at.node ≡ referee_node w
  pub slots : (at.keeper).slots ≡ (w.referee_keeper).slots
  pub datagrams : (at.link).sent ≡ (w.link).sent

pub record RunsSeat (player : Player) (w : WorldView) (at : SeatMoment) : Type 0 where
  pub player_is : at.player ≡ player
  pub node : at.node ≡ seat_node w player
  pub slots : (at.keeper).slots ≡ (seat_keeper w player).slots
  pub datagrams : (at.link).sent ≡ (w.link).sent

pub record RunsWatcher (index : ℕ) (w : WorldView) (at : WatcherMoment) : Type 0 where
  pub party_is : at.party ≡ first_watcher + index
  pub node_party : (at.node).party ≡ at.party
  pub node : slice_get w.watchers index ≡ Some at.node
  pub datagrams : (at.link).sent ≡ (w.link).sent

-- ---- the other parties stay as they are

abbrev pub IsSameParty : WorldView → WorldView → Role → Type 0
IsSameParty old new roles.Referee = (new.referee ≡ old.referee) × (new.referee_keeper ≡ old.referee_keeper)
IsSameParty old new (roles.Seat player) =
    (seat_core new player ≡ seat_core old player) × (seat_keeper new player ≡ seat_keeper old player)
IsSameParty old new (roles.Watcher index) = slice_get new.watchers index ≡ slice_get old.watchers index

pub record OthersStay (own : Role) (old new : WorldView) : Type 0 where
  pub id : new.id ≡ old.id
  pub terms : new.terms ≡ old.terms
  pub count : parties new ≡ parties old
  pub others : (other : Role) → (other ≡ own → ⊥) → IsSameParty old new other

-- ---- an instance

abbrev pub events_of : List (Event × Outcome) → List Event
events_of happened = map (λ h. h.0) happened

abbrev pub outcomes_of : List (Event × Outcome) → List Outcome
outcomes_of happened = map (λ h. h.1) happened

module _ {M : Type 0} (Happens : M → Event → Outcome → M → Type 0) (RunsParty : WorldView → M → Type 0) (own : Role) where
  -- a process that runs a party of a world of 256 parties: whatever happens at it is calls of
  -- processes there, after which it runs that party still
  abbrev pub IsInstance : Type 0
  IsInstance =
      (w : WorldView) (old new : M) (happened : List (Event × Outcome)) → parties w ≡ most_parties → RunsParty w old
      → Runs Happens old happened new
      → (after : WorldView) × Interleaves w (events_of happened) (outcomes_of happened) after × RunsParty after new
      × OthersStay own w after
