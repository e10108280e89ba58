use Rattle.std.specs.Prelude.{codes}
use Rattle.std.specs.Fmt.{decimal}
use Rattle.bg_turns.specs.Dice.{first_pips, second_pips}
use Rattle.bg_table.specs.StepRefusals.{dice_words}
use Rattle.bg_table.proofs.Grown.{four_parts}
use Rattle.bg_table.proofs.step_refusals.put_dice.Goals as goal

pub returns : goal.returns
unfolding dice_words
returns c =
    four_parts (codes "the dice are ") (decimal (first_pips c.args.dice)) (codes " and ") (decimal (second_pips c.args.dice)) _ _ _ _ _
    c.in_ok-put_text.ensures c.in_ok-put_die.ensures c.in_ok-put_text-2.ensures c.in_ok-put_die-2.ensures
