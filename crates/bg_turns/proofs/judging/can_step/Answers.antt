use Rattle.std.proofs.Common.{refl}
use Rattle.bg_turns.proofs.Sides.{Stands-of, IsMoverCounts-of, side_of}
use Rattle.bg_turns.proofs.judging.can_step.Goals as goal

pub returns : goal.returns
returns c =
    let side = side_of c.args.board.now c.args.player in
    let is = IsMoverCounts-of c.args.board.now c.args.player c.of.ensures.board in
    let stands = Stands-of side c.args.board.now c.args.player refl refl c.of.ensures.board in
    rw c.pips.ensures.value at (c.can_step.ensures side is (c.of.ensures.masks side refl refl) c.args.board.now c.args.player stands)
