use Rattle.std.proofs.Common.{◌↔◌, length}
use Rattle.bg_mat.specs.Files.{BeginAsMatchFile, lines_in}
use Rattle.bg_text.specs.Judge.Judging.{lines_of}
use Rattle.bg_mat.proofs.tellings.telling_apart.is_match_file.Given as goal

abbrev pub invariant-loop-line : goal.invariant-loop-line
invariant-loop-line l = BeginAsMatchFile (lines_of l.rest) ↔ BeginAsMatchFile (lines_in l.input)

abbrev pub decreases-loop-line : goal.decreases-loop-line
decreases-loop-line l = length l.rest
