use Rattle.std.proofs.Common.{refl, inl, inr, [], ◌∷◌}
use Rattle.bg_mat.specs.Telling.{Game}
use Rattle.bg_mat.specs.declared.awaiting.Awaited.TheVariants as awaited
use Rattle.bg_mat.proofs.OfReading.Refusing.{if_err, one_refused, refuses}
use Rattle.bg_mat.proofs.importing.read_line.Goals as goal

pub returns-in-Some-clause-fault : goal.returns-in-Some-clause-fault
returns-in-Some-clause-fault c =
    let game = c.in-Some.game in
    rw c.in-Row.is (if_err c.add_game.result
    (λ fault. refuses fault (λ number why h. inr (inr (
      Game game ∷ [],
      awaited.Scores,
      inl (game, c.in-Some.ensures, refl, refl),
      one_refused c.args.replay.now c.args.number (Game game) number why c.requires.replay h,
    ))))
    c.add_game.ensures.fault)
