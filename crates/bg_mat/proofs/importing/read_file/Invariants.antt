use Rattle.std.proofs.Common.{◌↔◌, ℕ, ◌+◌, ◌≤◌, List, length}
use Rattle.std.specs.Prelude.{IsTrue}
use Rattle.bg_mat.specs.Files.{HasCrawford, TellsFile}
use Rattle.bg_text.specs.Judge.Judging.{lines_of}
use Rattle.bg_mat.specs.Telling.{Told}
use Rattle.bg_mat.specs.declared.awaiting.Awaited.{Awaited}
use Rattle.bg_mat.proofs.OfReading.Refusing.{RefusesFrom}
use Rattle.bg_mat.proofs.importing.read_file.Given as goal

abbrev pub invariant-loop-line : goal.invariant-loop-line
invariant-loop-line l = record {
  file : (points : ℕ) (told : List Told) (there : Awaited) → TellsFile l.number (lines_of l.rest) points told there
      → TellsFile 1 (lines_of l.input) points told there;
  refuses : RefusesFrom l.fn.id l.fn.rules l.input l.number l.rest;
  crawford : IsTrue l.crawford ↔ HasCrawford (lines_of l.rest);
  few : l.number + length l.rest ≤ 1 + length l.input;
}

abbrev pub decreases-loop-line : goal.decreases-loop-line
decreases-loop-line l = length l.rest
