-- What a match that is played round by round comes to, and what the output gets.
use Rattle.std.specs.Prelude.{◌≡◌, ◌⊎◌, ◌≤◌, ℕ, ◌+◌, List, Some, Result, Ok, Err}
use Rattle.bg_match.specs.declared.limits.Rules.{Rules}
use Rattle.bg_streams.specs.Transfers.{WritesText}
use Rattle.bg_streams.specs.declared.devices.Sink.{Ghosts as SinkGhosts}
use Rattle.bg_world.specs.Texts.FinalText.{IsFinalText}
use Rattle.bg_protocol.specs.Worlds.Starts.{IsWorldFault, fresh_world, terms_in}
use Rattle.bg_protocol.specs.Protocol.State.{IsSetup}
use Rattle.bg_protocol.specs.Worlds.Views.{KeeperView, LinkView}
use Rattle.bg_protocol.specs.Worlds.World.{view_of}
use Rattle.bg_protocol.specs.declared.devices.Keeper as keeper
use Rattle.bg_protocol.specs.declared.devices.Link as link
use Rattle.bg_protocol.specs.declared.worlds.setups.Setup.{Setup}
use Rattle.bg_auto.specs.Rounds.{Moment, PlaysParts, StopsIn, match_parts}
use Rattle.bg_auto.specs.declared.loop_faults.LoopFault.{LoopFault}
use Rattle.bg_auto.specs.declared.loop_faults.LoopFault.TheVariants.{Memory, Socket, Stopped, World, Write}
use Rattle.bg_auto.specs.declared.rounds.Rounds.{Rounds}

-- one party watches, and the seed is the number of the match
abbrev pub setup_of : ℕ → ℕ → Rules → Setup
setup_of seed length rules = record { id = seed; length = length; rules = rules; watchers = 1 }

-- a match over devices in these states, where nothing has happened yet
abbrev pub start_moment : Setup → LinkView → KeeperView → KeeperView → KeeperView → Moment
start_moment setup link referee_keeper x_keeper o_keeper = record {
  seed = setup.id;
  world = fresh_world setup link referee_keeper x_keeper o_keeper;
  dice = record { held = Some 0; attempt = 0 };
}

-- a match that is being played, at this moment
abbrev pub moment_of : {L K : Type 0} → link.Ghosts L → keeper.Ghosts K → Rounds L K → Moment
moment_of l k played = record { seed = played.seed; world = view_of l k played.world; dice = played.attempts }

-- there is such a match
abbrev pub IsGood : Setup → Type 0
IsGood setup = IsSetup setup.id (terms_in setup) setup.watchers

-- the final text of the match at this moment is written to the output, which never failed
pub record WritesEnd {W : Type 0} (sink : SinkGhosts W) (end : Moment) (before after : W) : Type 0 where
  pub text : List ℕ
  pub is_text : IsFinalText end.world text
  pub written : WritesText sink before after text
  pub failures : sink.failures after ≡ sink.failures before

-- the output failed once, and has let go of nothing more
pub record FailsOnce {W : Type 0} (sink : SinkGhosts W) (before after : W) : Type 0 where
  pub failures : sink.failures after ≡ sink.failures before + 1
  pub taken : sink.taken after ≡ sink.taken before
  pub flushes : sink.flushes after ≤ sink.flushes before + 1

-- why the final text was not written: the output failed, or there was no memory for the text
abbrev pub IsWriteFault : {W : Type 0} → SinkGhosts W → W → W → LoopFault → Type 0
IsWriteFault sink before after Write = FailsOnce sink before after
IsWriteFault sink before after Memory = after ≡ before
IsWriteFault sink before after _ = ⊥

module _ {W : Type 0} (sink : SinkGhosts W) (link_honest keepers_honest : Type 0) where
  -- What so many rounds come to over any devices, with the output before and after. It is the same
  -- after as before unless the final text was handed to it.
  abbrev pub IsRoundsResult : Setup → Moment → ℕ → Result (Unit {0}) LoopFault → W → W → Type 0
  IsRoundsResult setup start rounds (Ok done) before after =
      IsGood setup
      × ((end : Moment) × PlaysParts link_honest keepers_honest start (match_parts rounds) end
      × WritesEnd sink end before after)
  IsRoundsResult setup start rounds (Err (World why)) before after = IsWorldFault why setup × (after ≡ before)
  IsRoundsResult setup start rounds (Err Socket) before after = ⊥
  IsRoundsResult setup start rounds (Err (Stopped outcome)) before after =
      IsGood setup × StopsIn link_honest keepers_honest start (match_parts rounds) (Stopped outcome) × (after ≡ before)
  IsRoundsResult setup start rounds (Err Write) before after =
      IsGood setup
      × ((end : Moment) × PlaysParts link_honest keepers_honest start (match_parts rounds) end)
      × FailsOnce sink before after
  -- there was none for a choice, or for the final text
  IsRoundsResult setup start rounds (Err Memory) before after =
      IsGood setup
      × (StopsIn link_honest keepers_honest start (match_parts rounds) Memory
      ⊎ ((end : Moment) × PlaysParts link_honest keepers_honest start (match_parts rounds) end))
      × (after ≡ before)
