use Rattle.std.proofs.Common.{refl, arith}
use Rattle.std.proofs.lemmas.Grind.{common_steps}
use Rattle.bg_mat.proofs.OfReading.Replays.{added}
use Rattle.bg_mat.proofs.playing.Replay.add.Goals as goal

pub returns-in-Ok-clause-done : goal.returns-in-Ok-clause-done
returns-in-Ok-clause-done c =
    added c.args.self.now _ c.args.line c.args.entry c.requires.replay c.requires.closed c.in-Ok.ensures.appended
    (grind (arith, common_steps)) refl refl refl c.push-2.ensures.log c.standing-self.ensures.stands
