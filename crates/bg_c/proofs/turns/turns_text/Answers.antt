use Rattle.std.proofs.Common.{sym}
use Rattle.bg_c.proofs.turns.turns_text.Goals as goal

pub returns : goal.returns
returns c = (
  (c.in-Some.player, c.in-Some.dice),
  sym c.in-Some.ensures,
  (
    c.in_ok-turns.turns.items,
    rw (← c.board.ensures) (record {
      exactly = c.in_ok-turns.ensures.exactly;
      greatest_first = c.in_ok-turns.ensures.greatest_first;
    }),
    rw (← c.deref.ensures.value) c.in_ok-put_turns.ensures,
  ),
)
