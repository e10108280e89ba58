use Rattle.std.proofs.Common.{◌≡◌, true, sym, arith}
use Rattle.std.proofs.lemmas.List.{get_or_read}
use Rattle.bg_mat.specs.FirstTurns.{HitsOtherwise}
use Rattle.bg_mat.proofs.OfReading.FoundTurns.{none_further}
use Rattle.bg_mat.proofs.movements.alike.first_otherwise.Goals as goal

pub loop-turn-preserved : goal.loop-turn-preserved
loop-turn-preserved c =
    none_further (HitsOtherwise c.args.board.now c.args.player c.args.written.now c.args.steps.now) c.args.turns.now
    c.loop-turn.turn-index c.turn-item.result c.loop-turn.invariant
    (λ d. sym (get_or_read c.args.turns.now c.loop-turn.turn-index c.turn-item.result c.loop-turn-test.true c.turn-item.is d))
    (λ h. let t : c.hits_otherwise.result ≡ true = c.hits_otherwise.ensures.1 h in absurd (cc (t, c.if-hits_otherwise.false)))

pub returns : goal.returns
returns c = λ k d below. c.loop-turn.invariant k d (omega (arith, below, c.loop-turn-test.false))
