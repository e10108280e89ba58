use Rattle.std.specs.Prelude.{codes}
use Rattle.std.specs.Fmt.{decimal}
use Rattle.bg_table.specs.Refusals.{waiting_words}
use Rattle.bg_table.proofs.Grown.{three_parts}
use Rattle.bg_table.proofs.refusals.put_waiting.Goals as goal

pub returns : goal.returns
unfolding waiting_words
returns c =
    three_parts (codes "your choice for entry ") (decimal c.args.number) (codes " is kept, and waits for the referee\n") _ _ _ _
    c.in_ok-put_text.ensures (rw c.into.ensures at c.in_ok-put_number.ensures) c.in_ok-put_text-2.ensures
