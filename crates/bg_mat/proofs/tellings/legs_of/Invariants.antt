use Rattle.std.proofs.Common.{◌≡◌, take, length}
use Rattle.bg_mat.proofs.OfReading.Hits.{AreLegsUpTo}
use Rattle.bg_mat.proofs.tellings.legs_of.Given as goal

abbrev pub invariant-loop-index : goal.invariant-loop-index
invariant-loop-index l = record {
  legs : AreLegsUpTo l.board l.player (take l.index l.steps) l.legs.items;
  many : length l.legs.items ≡ l.index;
}
