use Rattle.bg_mat.proofs.OfReading.NoCells.{no_unknown, no_unknown_word}
use Rattle.bg_mat.proofs.rows.dice.skip_unknown.Goals as goal
use Rattle.bg_mat.proofs.rows.dice.skip_unknown.Goals.{in_default-via-in-Some+else-is_unknown, in_default-via-in_default}

pub returns-in_default : goal.returns-in_default
returns-in_default c =
    elim c.in_default.branch [
      | in_default-via-in-Some+else-is_unknown w ↦
          no_unknown c.args.text.now w.in-Some.word.now w.in-Some.rest.now w.in-Some.ensures
          (λ marks. let t = w.is_unknown.ensures.1 marks in absurd (cc (t, w.if-is_unknown.false)))
      | in_default-via-in_default w ↦ no_unknown_word c.args.text.now (rw w.in_default.is at c.split_word.ensures)
    ]
