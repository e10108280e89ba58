use Rattle.std.proofs.Common.{refl}
use Rattle.std.specs.Prelude.{codes}
use Rattle.bg_text.specs.Boards.BoardText.{line_text}
use Rattle.bg_table.specs.TurnRefusals.{AreLegalTurns, wanted_words}
use Rattle.bg_table.proofs.Grown.{two_parts}
use Rattle.bg_table.proofs.turn_refusals.put_wanted_line.Goals as goal

pub returns : goal.returns
returns c =
    let turns = c.in_ok-turns.turns.items in
    let legal : AreLegalTurns c.args.board.now c.args.player c.args.dice turns = record { exactly = c.in_ok-turns.ensures.exactly; greatest_first = c.in_ok-turns.ensures.greatest_first } in
    let put = two_parts (wanted_words c.args.larger c.args.dice turns) (codes "\n") _ _ _ (rw c.deref.ensures.value at c.in_ok-put_wanted.ensures)
    c.in_ok-put_text.ensures in
    (line_text (wanted_words c.args.larger c.args.dice turns), (turns, legal, refl), put)
