use Rattle.std.specs.Prelude.{codes}
use Rattle.std.specs.Fmt.{decimal}
use Rattle.bg_table.specs.TurnRefusals.{of_four_words}
use Rattle.bg_table.proofs.Grown.{two_parts}
use Rattle.bg_table.proofs.turn_refusals.put_of_four.Goals as goal

pub returns : goal.returns
unfolding of_four_words
returns c = two_parts (decimal c.args.count) (codes " of the 4 steps") _ _ _ c.in_ok-put_number.ensures c.in_ok-put_text.ensures
