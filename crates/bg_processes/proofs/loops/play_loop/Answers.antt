use Rattle.bg_auto.specs.RoundResults.{setup_of}
use Rattle.bg_processes.proofs.LoopResults.{over_devices}
use Rattle.bg_processes.proofs.loops.play_loop.Goals as goal

pub returns : goal.returns
returns g c =
    over_devices g.W.Sink (setup_of c.args.seed c.args.length c.args.rules) c.args.rounds _ _ _ _ c.play_rounds.result
    c.args.output.now c.play_rounds.new.output c.play_rounds.ensures
