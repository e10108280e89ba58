use Rattle.std.proofs.Common.{refl, [], ◌∷◌}
use Rattle.bg_mat.specs.Telling.{Scores}
use Rattle.bg_mat.proofs.importing.add_scores.Goals as goal

pub returns-clause-done : goal.returns-clause-done
returns-clause-done c =
    let s = c.in_ok-tell_scores.ensures.done in
    (Scores s.x s.o ∷ [], (s.x, s.o, s.scores, refl, refl), s.goes)
