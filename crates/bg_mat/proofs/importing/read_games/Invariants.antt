use Rattle.std.proofs.Common.{◌≡◌, ◌+◌, ◌≤◌, None, length}
use Rattle.bg_text.specs.Judge.Judging.{lines_of}
use Rattle.bg_mat.specs.Refusals.{IsToldLine}
use Rattle.bg_mat.specs.Replaying.{pending_items}
use Rattle.bg_mat.specs.declared.awaiting.Awaited.TheVariants as awaited
use Rattle.bg_mat.proofs.OfReading.Readings.{IsReadUpTo}
use Rattle.bg_mat.proofs.OfReading.Refusing.{AreOn}
use Rattle.bg_mat.proofs.importing.read_games.Given as goal

abbrev pub invariant-loop-line : goal.invariant-loop-line
invariant-loop-line l = record {
  read : IsReadUpTo l.fn.start l.fn.first l.input l.replay l.awaited l.number l.rest;
  pending : AreOn (IsToldLine l.fn.first (lines_of l.input)) (pending_items l.replay.pending);
  closed : l.awaited ≡ awaited.Scores → l.replay.pending ≡ None;
  few : l.number + length l.rest ≤ l.fn.first + length l.input;
}

abbrev pub decreases-loop-line : goal.decreases-loop-line
decreases-loop-line l = length l.rest
