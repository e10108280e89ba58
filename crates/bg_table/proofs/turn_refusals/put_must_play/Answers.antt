use Rattle.std.specs.Prelude.{codes}
use Rattle.bg_table.specs.TurnRefusals.{example_words, must_play_words}
use Rattle.bg_table.proofs.Grown.{three_parts}
use Rattle.bg_table.proofs.turn_refusals.put_must_play.Goals as goal

pub returns : goal.returns
unfolding must_play_words
returns c =
    three_parts (codes "you must play ") _ (example_words c.args.turn.now) _ _ _ _
    c.in_ok-put_text.ensures (rw c.steps.ensures.value at c.in_ok-put_count.ensures) c.in_ok-put_example.ensures
