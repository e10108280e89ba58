use Rattle.bg_typed.proofs.ReadWords.{no_first, other_first}
use Rattle.bg_typed.proofs.words.skip_move.Goals as goal

pub returns-in_default : goal.returns-in_default
returns-in_default c = no_first c.args.text.now (rw c.in_default.is at c.split_word.ensures)

pub returns-else-is_move : goal.returns-else-is_move
returns-else-is_move c =
    other_first c.args.text.now c.in-Some.word.now c.in-Some.rest.now c.in-Some.ensures
    (λ move. let t = c.is_move.ensures.1 move in absurd (cc (t, c.if-is_move.false)))
