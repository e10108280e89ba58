-- A world where nothing has happened yet, and the records that a world holds.
use Rattle.std.specs.Prelude.{◌≡◌, ℕ, zero, suc, ◌+◌, ◌<◌, ◌≤◌, List, [], ◌∷◌, ◌++◌, Option, Some, None, slice_get}
use Rattle.bg_board.specs.declared.players.Player.TheVariants.{X, O}
use Rattle.bg_match.specs.Limits.{IsMatchLength}
use Rattle.bg_match.specs.Match.{Log}
use Rattle.bg_match.specs.Terms.{Terms, terms_of}
use Rattle.bg_referee.specs.Referee.{RefereeView, fresh_referee}
use Rattle.bg_party.specs.Views.{SeatView, WatcherView, fresh_seat, fresh_watcher}
use Rattle.bg_wire.specs.Entries.Codes.{first_watcher}
use Rattle.bg_protocol.specs.Protocol.Slots.{empty_slots}
use Rattle.bg_protocol.specs.Protocol.State.{IsSetup, most_watchers}
use Rattle.bg_protocol.specs.Worlds.Views.{KeeperView, LinkView, WorldView, seat_core}
use Rattle.bg_protocol.specs.declared.roles.Role.{Role}
use Rattle.bg_protocol.specs.declared.roles.Role.TheVariants as roles
use Rattle.bg_protocol.specs.declared.worlds.setups.Setup.{Setup}
use Rattle.bg_protocol.specs.declared.worlds.setups.WorldFault.{WorldFault}
use Rattle.bg_protocol.specs.declared.worlds.setups.WorldFault.TheVariants as faults

-- what the players of a match agree on
abbrev pub terms_in : Setup → Terms
terms_in setup = terms_of setup.length setup.rules

-- the fault names the first test that fails; want of memory comes last, and only where there are
-- watchers
abbrev pub IsWorldFault : WorldFault → Setup → Type 0
IsWorldFault faults.TooManyWatchers setup = most_watchers < setup.watchers
IsWorldFault faults.LengthOutOfRange setup =
    (setup.watchers ≤ most_watchers) × (IsMatchLength setup.length → ⊥)
IsWorldFault faults.Memory setup = IsSetup setup.id (terms_in setup) setup.watchers × (1 ≤ setup.watchers)

-- so many watchers, who hold nothing; the party of the first is the first watcher's
abbrev pub fresh_watchers : ℕ → Terms → ℕ → List WatcherView
fresh_watchers id terms zero = []
fresh_watchers id terms (suc count) =
    fresh_watchers id terms count ++ fresh_watcher (first_watcher + count) id terms ∷ []

-- a world between these devices where all parties are fresh and up
abbrev pub fresh_world : Setup → LinkView → KeeperView → KeeperView → KeeperView → WorldView
fresh_world setup link referee_keeper x_keeper o_keeper = record {
  id = setup.id;
  terms = terms_in setup;
  link = link;
  referee_keeper = referee_keeper;
  x_keeper = x_keeper;
  o_keeper = o_keeper;
  referee = Some (fresh_referee setup.id (terms_in setup));
  x = Some (fresh_seat X setup.id (terms_in setup));
  o = Some (fresh_seat O setup.id (terms_in setup));
  watchers = fresh_watchers setup.id (terms_in setup) setup.watchers;
}

-- nothing was sent over the link, and the slots are empty
pub record AreUnused (link : LinkView) (referee_keeper x_keeper o_keeper : KeeperView) : Type 0 where
  pub none_sent : link.sent ≡ []
  pub referee_empty : referee_keeper.slots ≡ empty_slots
  pub x_empty : x_keeper.slots ≡ empty_slots
  pub o_empty : o_keeper.slots ≡ empty_slots

-- ---- the record of each party that is up

abbrev pub referee_log : Option RefereeView → Option Log
referee_log None = None
referee_log (Some core) = Some core.log

abbrev pub seat_log : Option SeatView → Option Log
seat_log None = None
seat_log (Some core) = Some core.follower.log

abbrev pub watcher_log : Option WatcherView → Option Log
watcher_log None = None
watcher_log (Some core) = Some core.follower.log

abbrev pub held_of : WorldView → Role → Option Log
held_of w roles.Referee = referee_log w.referee
held_of w (roles.Seat player) = seat_log (seat_core w player)
held_of w (roles.Watcher index) = watcher_log (slice_get w.watchers index)
