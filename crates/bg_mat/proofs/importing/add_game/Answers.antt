use Rattle.std.proofs.Common.{refl, [], ◌∷◌}
use Rattle.bg_mat.specs.Telling.{Game}
use Rattle.bg_mat.proofs.importing.add_game.Goals as goal

pub returns-clause-done : goal.returns-clause-done
returns-clause-done c = (Game c.args.game ∷ [], (c.args.game, c.requires.line, refl, refl), c.in_ok-begin_game.ensures.done)
