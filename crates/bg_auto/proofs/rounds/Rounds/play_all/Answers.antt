use Rattle.std.proofs.lemmas.Result.{err_from_is_err_and}
use Rattle.bg_auto.specs.RoundResults.{moment_of}
use Rattle.bg_auto.specs.declared.round_schedule.Part.TheVariants.{Due}
use Rattle.bg_auto.proofs.PlayingParts.{plays_more, stops_here}
use Rattle.bg_auto.proofs.rounds.Rounds.play_all.Goals as goal

pub returns-in_err-play-clause-stopped : goal.returns-in_err-play-clause-stopped
returns-in_err-play-clause-stopped g c =
    let p = err_from_is_err_and c.from_residual.result c.from_residual.ensures.1 in
    rw (p.1, p.2)
    (stops_here g.L.Link.is_honest g.K.Keeper.is_honest (moment_of g.L.Link g.K.Keeper c.args.self.now)
    c.args.parts.now c.loop-part.part-index Due (moment_of g.L.Link g.K.Keeper c.loop-part.self) c.in_err-play.field-0.0
    c.loop-part-test.true c.loop-part.invariant c.in_err-play.ensures.stopped)

pub loop-part-preserved : goal.loop-part-preserved
loop-part-preserved g c =
    plays_more g.L.Link.is_honest g.K.Keeper.is_honest (moment_of g.L.Link g.K.Keeper c.args.self.now) c.args.parts.now
    c.loop-part.part-index Due (moment_of g.L.Link g.K.Keeper c.loop-part.self)
    (moment_of g.L.Link g.K.Keeper c.play.new.self) c.loop-part-test.true c.loop-part.invariant
    c.in_ok-play.ensures.played
