-- A legal step leads from a position to a position.
use Rattle.std.proofs.Common.{arith}
use Rattle.bg_board.proofs.Carried.{IsPosition-after_step}
use Rattle.bg_board.specs.declared.players.Player.TheVariants.{X, O}
use Rattle.bg_board.proofs.boards.Board.play.Goals as goal

pub invariant_of-self : goal.invariant_of-self
invariant_of-self c =
    let legal = rw (c.in-X.is, ← c.self.view_is) at c.requires.1 in
    rw (c.carry_and_hit.ensures.carried, c.carry_and_hit.ensures.hit)
    (IsPosition-after_step _ X c.args.step c.requires.0 (omega arith) (omega arith) c.self.invariant legal)

pub invariant_of-self-in-O : goal.invariant_of-self-in-O
invariant_of-self-in-O c =
    let legal = rw (c.in-O.is, ← c.self.view_is) at c.requires.1 in
    rw (c.carry_and_hit-in-O.ensures.carried, c.carry_and_hit-in-O.ensures.hit)
    (IsPosition-after_step _ O c.args.step c.requires.0 (omega arith) (omega arith) c.self.invariant legal)
