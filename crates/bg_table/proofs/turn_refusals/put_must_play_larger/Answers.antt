use Rattle.std.specs.Prelude.{codes}
use Rattle.std.specs.Fmt.{decimal}
use Rattle.bg_board.specs.Die.{pips}
use Rattle.bg_table.specs.TurnRefusals.{example_words, must_play_larger_words}
use Rattle.bg_table.proofs.Grown.{three_parts}
use Rattle.bg_table.proofs.turn_refusals.put_must_play_larger.Goals as goal

pub returns : goal.returns
unfolding must_play_larger_words
returns c =
    three_parts (codes "you must play the larger die, ") (decimal (pips c.args.larger)) (example_words c.args.turn.now) _ _ _ _
    c.in_ok-put_text.ensures c.in_ok-put_die.ensures c.in_ok-put_example.ensures
