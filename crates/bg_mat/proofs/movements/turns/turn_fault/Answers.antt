use Rattle.std.proofs.Common.{◌↔◌, List, arith}
use Rattle.std.specs.Prelude.{Contains}
use Rattle.bg_board.specs.FromTo.{FromTo}
use Rattle.bg_turns.specs.Turn.{IsLegalTurn}
use Rattle.bg_mat.proofs.OfReading.TurnLemmas.{no_movement}
use Rattle.bg_mat.proofs.movements.turns.turn_fault.Goals as goal

pub returns : goal.returns
returns c = λ none.
    let turns = c.deref-turn-items.result.now in
    let exact : (steps : List FromTo) → Contains turns steps ↔ IsLegalTurn c.args.board.now c.args.player c.args.dice steps =
    rw c.deref-turn-items.ensures.value c.in_ok-turns.ensures.exactly in
    no_movement c.args.board.now c.args.player c.args.dice c.args.legs.now turns exact
    (λ k d below. c.loop-turn.invariant k d (omega (arith, below, c.loop-turn-test.false)))
