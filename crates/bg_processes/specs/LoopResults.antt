-- What a match over sockets and files comes to, and what the output gets.
use Rattle.std.specs.Prelude.{◌≡◌, ℕ, Result, Err}
use Rattle.bg_streams.specs.declared.devices.Sink.{Ghosts as SinkGhosts}
use Rattle.bg_protocol.specs.Worlds.Views.{KeeperView, LinkView}
use Rattle.bg_protocol.specs.declared.worlds.setups.Setup.{Setup}
use Rattle.bg_auto.specs.RoundResults.{IsRoundsResult, start_moment}
use Rattle.bg_auto.specs.declared.loop_faults.LoopFault.{LoopFault}
use Rattle.bg_auto.specs.declared.loop_faults.LoopFault.TheVariants.{Memory, Socket}

-- what so many rounds come to over some sockets and files, which claim nothing; there may be no
-- sockets, or no memory for them
abbrev pub IsLoopResult : {W : Type 0} → SinkGhosts W → Setup → ℕ → Result (Unit {0}) LoopFault → W → W → Type 0
IsLoopResult sink setup rounds (Err Socket) before after = after ≡ before
IsLoopResult sink setup rounds (Err Memory) before after = after ≡ before
IsLoopResult sink setup rounds result before after =
    (link : LinkView) × (referee_keeper : KeeperView) × (x_keeper : KeeperView) × (o_keeper : KeeperView)
    × IsRoundsResult sink ⊥ ⊥ setup (start_moment setup link referee_keeper x_keeper o_keeper) rounds result before
    after
