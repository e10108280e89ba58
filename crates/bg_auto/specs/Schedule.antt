-- The schedule of an automatic match: which event two random words choose.
use Rattle.std.specs.Prelude.{◌≡◌, ◌≢◌, ◌⊎◌, ◌≤◌, ◌-◌, ◌/◌, ◌%◌, ◌==◌, ℕ, nat_lt, if◌then◌else◌, Option, Some, None}
use Rattle.bg_board.specs.declared.players.Player.{Player}
use Rattle.bg_board.specs.declared.players.Player.TheVariants.{X, O}
use Rattle.bg_match.specs.Match.{Log}
use Rattle.bg_match.specs.declared.actions.Action.{Action}
use Rattle.bg_wire.specs.Parties.{party_of}
use Rattle.bg_protocol.specs.Devices.Handed.{count_to}
use Rattle.bg_protocol.specs.Protocol.Roles.{role}
use Rattle.bg_protocol.specs.Worlds.Starts.{held_of}
use Rattle.bg_protocol.specs.Worlds.Views.{WorldView}
use Rattle.bg_protocol.specs.declared.events.Event.{Event}
use Rattle.bg_protocol.specs.declared.events.Event.TheVariants.{Choose, Due, Restart, Save, Take, Tick}
use Rattle.bg_auto.specs.AutoAction.{IsAutoAction}

-- of so many datagrams to a party: the last, or one of the four before it; else a pick that names
-- none
abbrev pub late_pick : ℕ → ℕ → ℕ
late_pick count back = if nat_lt back count then count - 1 - back else count

-- the record that a player's seat holds, if it is up
abbrev pub seat_log : WorldView → Player → Option Log
seat_log w player = held_of w (role (party_of player))

-- the player chooses what an automatic player does, or else his seat ticks
abbrev pub IsChoice : WorldView → Player → Event → Type 0
IsChoice w player event =
    ((log : Log) × (does : Action) × (seat_log w player ≡ Some log) × IsAutoAction log player (Some does)
    × (event ≡ Choose player does))
    ⊎ (((log : Log) → seat_log w player ≡ Some log → IsAutoAction log player None) × (event ≡ Tick (party_of player)))

-- the party that the second word names, of so many
abbrev pub named_party : ℕ → ℕ → ℕ
named_party parties b = b % parties

-- the player whose turn to choose the second word makes it
abbrev pub named_player : ℕ → Player
named_player b = if b % 2 == 0 then X else O

-- The event that words a and b choose in a world of so many parties, where this word is handed to
-- the referee: a row for each rest of a by 16.
pub record IsScheduled (w : WorldView) (parties word a b : ℕ) (event : Event) : Type 0 where
  pub due : a % 16 ≡ 0 → event ≡ Due word
  pub take : 1 ≤ a % 16 → a % 16 ≤ 6 → event ≡ Take (named_party parties b)
      (late_pick (count_to (named_party parties b) w.link.sent) (b / parties % 5)) word
  pub choose : 7 ≤ a % 16 → a % 16 ≤ 8 → IsChoice w (named_player b) event
  pub tick : 9 ≤ a % 16 → a % 16 ≤ 11 → event ≡ Tick (named_party parties b)
  pub save : 12 ≤ a % 16 → a % 16 ≤ 14 → event ≡ Save (b % 3)
  pub restart : a % 16 ≡ 15 → b / parties % 4 ≡ 0 → event ≡ Restart (named_party parties b)
  pub no_restart : a % 16 ≡ 15 → b / parties % 4 ≢ 0 → event ≡ Tick (named_party parties b)
