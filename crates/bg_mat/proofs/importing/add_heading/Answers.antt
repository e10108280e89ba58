use Rattle.std.proofs.Common.{refl, inl, inr, [], ◌∷◌}
use Rattle.bg_mat.specs.Telling.{Game}
use Rattle.bg_mat.specs.declared.awaiting.Awaited.TheVariants as awaited
use Rattle.bg_mat.proofs.OfReading.Refusing.{if_err, one_refused, refuses}
use Rattle.bg_mat.proofs.OfReading.RowLemmas.{game_shape}
use Rattle.bg_mat.proofs.importing.add_heading.Goals as goal

pub returns-in-Some-clause-fault : goal.returns-in-Some-clause-fault
returns-in-Some-clause-fault c =
    let game = c.in-Some.game in
    if_err c.add_game.result
    (λ fault. refuses fault (λ number why h. inr (inr (
      Game game ∷ [],
      awaited.Scores,
      (game, c.in-Some.ensures, refl, refl),
      one_refused c.args.replay.now c.args.number (Game game) number why c.requires h,
    ))))
    c.add_game.ensures.fault

pub returns-in-None-clause-fault : goal.returns-in-None-clause-fault
returns-in-None-clause-fault c = rw c.refused.ensures (inl (refl, game_shape c.args.line.now c.in-None.ensures))
