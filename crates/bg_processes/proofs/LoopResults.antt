-- What a match comes to over some devices is what it comes to over sockets and files.
use Rattle.std.proofs.Common.{ℕ, Result, Ok, Err}
use Rattle.bg_streams.specs.declared.devices.Sink.{Ghosts as SinkGhosts}
use Rattle.bg_protocol.specs.Worlds.Views.{KeeperView, LinkView}
use Rattle.bg_protocol.specs.declared.worlds.setups.Setup.{Setup}
use Rattle.bg_auto.specs.RoundResults.{IsRoundsResult, start_moment}
use Rattle.bg_auto.specs.declared.loop_faults.LoopFault.{LoopFault}
use Rattle.bg_auto.specs.declared.loop_faults.LoopFault.TheVariants.{Memory, Socket, Stopped, World, Write}
use Rattle.bg_processes.specs.LoopResults.{IsLoopResult}

pub over_devices : {W : Type 0} (sink : SinkGhosts W) (setup : Setup) (rounds : ℕ) (link : LinkView) (r x o : KeeperView)
    (result : Result (Unit {0}) LoopFault) (before after : W)
    → IsRoundsResult sink ⊥ ⊥ setup (start_moment setup link r x o) rounds result before after
    → IsLoopResult sink setup rounds result before after
over_devices sink setup rounds link r x o (Ok done) before after h = (link, r, x, o, h)
over_devices sink setup rounds link r x o (Err Socket) before after h = absurd h
over_devices sink setup rounds link r x o (Err Memory) before after h = h.2
over_devices sink setup rounds link r x o (Err (World why)) before after h = (link, r, x, o, h)
over_devices sink setup rounds link r x o (Err (Stopped outcome)) before after h = (link, r, x, o, h)
over_devices sink setup rounds link r x o (Err Write) before after h = (link, r, x, o, h)
