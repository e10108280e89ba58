use Rattle.std.proofs.Common.{◌≡◌, take, length}
use Rattle.bg_mat.specs.Turns.{steps_of}
use Rattle.bg_mat.proofs.movements.as_turn.Given as goal

abbrev pub invariant-loop-leg : goal.invariant-loop-leg
invariant-loop-leg l = record {
  steps : l.turn ≡ steps_of (take l.leg-index l.legs);
  many : length l.turn ≡ l.leg-index;
}
