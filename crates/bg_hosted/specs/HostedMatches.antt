-- What contracts see of a hosted match.
use Rattle.std.specs.Prelude.{◌≡◌, ℕ, Option, Some, None, length}
use Rattle.bg_board.specs.declared.players.Player.{Player}
use Rattle.bg_match.specs.Match.{Log, StandsAt}
use Rattle.bg_match.specs.State.{State}
use Rattle.bg_match.specs.Terms.{Terms, match_length, rules_of}
use Rattle.bg_match.specs.declared.phases.Phase.TheVariants.{Over}
use Rattle.bg_protocol.specs.Protocol.Roles.{role}
use Rattle.bg_protocol.specs.Worlds.Starts.{fresh_world, held_of}
use Rattle.bg_protocol.specs.Worlds.Views.{WorldView, keeper_view}
use Rattle.bg_protocol.specs.declared.devices.Keeper as keeper
use Rattle.bg_protocol.specs.declared.worlds.setups.Keepers.{Keepers}
use Rattle.bg_protocol.specs.declared.worlds.setups.Setup.{Setup}
use Rattle.bg_hosted.specs.QueueLinks.{queue_view, unused_queue}
use Rattle.bg_hosted.specs.declared.hosted_matches.HostedMatch.{HostedMatch}

-- its parties over the queue and the keepers
abbrev pub world_of : {K : Type 0} → keeper.Ghosts K → HostedMatch K → WorldView
world_of k hosted = record {
  id = hosted.world.id;
  terms = hosted.world.terms;
  link = queue_view hosted.world.link;
  referee_keeper = keeper_view k hosted.world.keepers.referee;
  x_keeper = keeper_view k hosted.world.keepers.x;
  o_keeper = keeper_view k hosted.world.keepers.o;
  referee = hosted.world.referee.core;
  x = hosted.world.x.core;
  o = hosted.world.o.core;
  watchers = hosted.world.watchers;
}

-- the party whose record everybody is told
abbrev pub teller : ℕ
teller = 3

-- what everybody is told
abbrev pub told_of : WorldView → Option Log
told_of w = held_of w (role teller)

-- how many entries a record has that a party holds, or none where it is down
abbrev pub count_of : Option Log → ℕ
count_of None = 0
count_of (Some log) = length log.entries

-- a player has won the match of the record
abbrev pub IsWon : Log → Type 0
IsWon log = (s : State) × (player : Player) × StandsAt log.terms log.entries s × (s.phase ≡ Over player)

-- there is a record, and a player has won its match
abbrev pub IsOverBy : Option Log → Type 0
IsOverBy None = ⊥
IsOverBy (Some log) = IsWon log

-- one watches, the teller
abbrev pub setup_of : ℕ → Terms → Setup
setup_of id terms = record { id = id; length = match_length terms; rules = rules_of terms; watchers = 1 }

-- all parties are fresh, between an unused queue and these keepers
abbrev pub fresh_match : {K : Type 0} → keeper.Ghosts K → ℕ → Terms → Keepers K → WorldView
fresh_match k id terms keepers =
    fresh_world (setup_of id terms) unused_queue (keeper_view k keepers.referee) (keeper_view k keepers.x)
    (keeper_view k keepers.o)
