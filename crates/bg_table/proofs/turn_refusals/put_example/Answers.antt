use Rattle.std.specs.Prelude.{codes}
use Rattle.bg_table.specs.StepTexts.{steps_text}
use Rattle.bg_table.specs.TurnRefusals.{example_words}
use Rattle.bg_table.proofs.Grown.{three_parts}
use Rattle.bg_table.proofs.turn_refusals.put_example.Goals as goal

pub returns : goal.returns
unfolding example_words
returns c =
    three_parts (codes ":") (steps_text c.args.turn.now) (codes " can be played") _ _ _ _
    c.in_ok-put_text.ensures (rw c.steps.ensures.value at c.in_ok-put_steps.ensures) c.in_ok-put_text-2.ensures
