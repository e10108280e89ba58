use Rattle.std.proofs.Common.{List, ℕ, subst}
use Rattle.bg_text.specs.Judge.Judging.{lines_of}
use Rattle.bg_mat.specs.Files.{EndsFile}
use Rattle.bg_mat.proofs.importing.import_mat.Goals as goal

pub returns-in-Ok-clause-ends : goal.returns-in-Ok-clause-ends
returns-in-Ok-clause-ends c =
    subst (λ (text : List ℕ). EndsFile (lines_of text) c.in-Ok.imported.within_game) c.behind_mark.ensures.text c.in-Ok.ensures.ends
