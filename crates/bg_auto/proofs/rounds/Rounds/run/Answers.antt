use Rattle.std.proofs.Common.{◌≡◌, ℕ, suc, ◌+◌, arith, subst}
use Rattle.std.proofs.lemmas.Result.{err_from_is_err_and}
use Rattle.bg_auto.specs.RoundResults.{moment_of}
use Rattle.bg_auto.specs.Rounds.{PlaysParts, match_parts, round_parts}
use Rattle.bg_auto.proofs.PlayingParts.{plays_both, stops_first, stops_in_round}
use Rattle.bg_auto.proofs.rounds.Rounds.run.Goals as goal

pub returns-in_err-play_all-clause-stopped : goal.returns-in_err-play_all-clause-stopped
returns-in_err-play_all-clause-stopped g c =
    let p = err_from_is_err_and c.from_residual.result c.from_residual.ensures.1 in
    rw (p.1, p.2)
    (stops_first g.L.Link.is_honest g.K.Keeper.is_honest (moment_of g.L.Link g.K.Keeper c.args.self.now) c.args.rounds
    c.in_err-play_all.field-0.0 c.in_err-play_all.ensures.stopped)

pub returns-in_err-play_all-2-clause-stopped : goal.returns-in_err-play_all-2-clause-stopped
returns-in_err-play_all-2-clause-stopped g c =
    let p = err_from_is_err_and c.from_residual-in_err-play_all-2.result c.from_residual-in_err-play_all-2.ensures.1 in
    rw (p.1, p.2)
    (stops_in_round g.L.Link.is_honest g.K.Keeper.is_honest (moment_of g.L.Link g.K.Keeper c.args.self.now)
    (moment_of g.L.Link g.K.Keeper c.loop-done.self) c.loop-done.done c.args.rounds c.in_err-play_all-2.field-0.0
    c.loop-done-test.true c.loop-done.invariant c.in_err-play_all-2.ensures.stopped)

pub loop-done-preserved : goal.loop-done-preserved
loop-done-preserved g c =
    let next : suc c.loop-done.done ≡ c.loop-done.done + 1 = omega arith in
    subst (λ (n : ℕ). PlaysParts g.L.Link.is_honest g.K.Keeper.is_honest
    (moment_of g.L.Link g.K.Keeper c.args.self.now) (match_parts n)
    (moment_of g.L.Link g.K.Keeper c.play_all-in-loop-done.new.self)) next
    (plays_both g.L.Link.is_honest g.K.Keeper.is_honest (moment_of g.L.Link g.K.Keeper c.args.self.now)
    (match_parts c.loop-done.done) round_parts (moment_of g.L.Link g.K.Keeper c.loop-done.self)
    (moment_of g.L.Link g.K.Keeper c.play_all-in-loop-done.new.self) c.loop-done.invariant
    c.in_ok-play_all-2.ensures.played)
