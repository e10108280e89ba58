-- What contracts see of a watcher, and of a seat.
use Rattle.std.specs.Prelude.{◌≡◌, ◌==◌, ℕ, ◌+◌, ◌≤◌, Bool, true, Option, Some, None, List, [], length}
use Rattle.std.specs.Prelude.{if◌then◌else◌}
use Rattle.bg_board.specs.declared.players.Player.{Player}
use Rattle.bg_board.specs.declared.players.Player.TheVariants.{X, O}
use Rattle.bg_match.specs.Terms.{Terms}
use Rattle.bg_match.specs.declared.actions.Action.{Action}
use Rattle.bg_match.specs.declared.entries.Entry.{Entry}
use Rattle.bg_match.specs.Limits.{most_entries}
use Rattle.bg_match.specs.Match.{Log, IsLegalRecord, empty_log}
use Rattle.bg_wire.specs.Saved.SavedText.{IsKeptClaim}
use Rattle.bg_wire.specs.Entries.Codes.{least_save, greatest_save, seat_of_x, first_watcher, last_watcher}
use Rattle.bg_wire.specs.declared.saves.Saved.{Saved}
use Rattle.bg_party.specs.Retry.{RetryView, at_once}
use Rattle.bg_party.specs.Window.{at_place, window_size}

-- what seats and watchers have in common: the record, as far as the referee told it; the early
-- entries that are kept, each at its place behind the record; and when it sends
pub record FollowerView : Type 0 where
  pub log : Log
  pub early : List (Option Entry)
  pub retry : RetryView

-- what every follower keeps; each place is that of a number that an entry may have
pub record IsFollower (f : FollowerView) : Type 0 where
  pub legal : IsLegalRecord f.log.terms f.log.entries
  pub few : length f.early ≤ window_size
  pub numbered : length f.log.entries + length f.early ≤ most_entries

-- this early entry is kept under this number
abbrev pub IsEarly : FollowerView → ℕ → Entry → Type 0
IsEarly f n e = (i : ℕ) × (n ≡ length f.log.entries + 1 + i) × (at_place f.early i ≡ Some e)

-- that begins with this record: it keeps no early entry, and sends on the next tick
abbrev pub starting_follower : Log → FollowerView
starting_follower log = record { log = log; early = []; retry = at_once }

-- of a match with no entry
abbrev pub fresh_follower : ℕ → Terms → FollowerView
fresh_follower id terms = starting_follower (empty_log id terms)

-- its party, and what it has as a follower
pub record WatcherView : Type 0 where
  pub party : ℕ
  pub follower : FollowerView

pub record IsWatcher (w : WatcherView) : Type 0 where
  pub first : first_watcher ≤ w.party
  pub last : w.party ≤ last_watcher
  pub follower : IsFollower w.follower

abbrev pub fresh_watcher : ℕ → ℕ → Terms → WatcherView
fresh_watcher party id terms = record { party = party; follower = fresh_follower id terms }

-- its player, what it has as a follower, its last claim (the number of the entry that shall answer
-- the action), whether that is saved, and the number of the next save
pub record SeatView : Type 0 where
  pub player : Player
  pub follower : FollowerView
  pub claim : Option (ℕ × Action)
  pub claim_saved : Bool
  pub next_save : ℕ

-- what every seat keeps; after the last save there is no number for a next one
pub record IsSeat (s : SeatView) : Type 0 where
  pub follower : IsFollower s.follower
  pub claim : IsKeptClaim s.claim
  pub first_save : least_save ≤ s.next_save
  pub last_save : s.next_save ≤ greatest_save + 1

-- no claim counts as saved
abbrev pub fresh_seat : Player → ℕ → Terms → SeatView
fresh_seat player id terms = record {
  player = player;
  follower = fresh_follower id terms;
  claim = None;
  claim_saved = true;
  next_save = least_save;
}

-- whose seat the party is
abbrev pub player_of : ℕ → Player
player_of party = if party == seat_of_x then X else O

-- the seat that goes on from what was saved: its claim counts as saved
abbrev pub resumed_seat : Saved → SeatView
resumed_seat s = record {
  player = player_of s.party;
  follower = starting_follower s.log;
  claim = s.claim;
  claim_saved = true;
  next_save = s.save + 1;
}

-- the seat after its save of this number was written: a claim that was not saved is sent on the
-- next tick
abbrev pub seat_after_save : SeatView → ℕ → SeatView
seat_after_save s save = record s {
  follower = record (s.follower) { retry = if s.claim_saved then s.follower.retry else at_once };
  claim_saved = true;
  next_save = save + 1;
}
