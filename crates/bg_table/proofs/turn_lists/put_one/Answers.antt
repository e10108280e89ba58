use Rattle.std.specs.Prelude.{codes}
use Rattle.bg_table.specs.TurnLists.{marked_steps, one_text}
use Rattle.bg_table.proofs.Grown.{three_parts}
use Rattle.bg_table.proofs.turn_lists.put_one.Goals as goal

pub returns : goal.returns
unfolding one_text
returns c =
    three_parts (codes "the only turn:") (marked_steps c.args.board.now c.args.player c.args.steps.now) (codes " (`m` plays it)\n") _ _ _ _
    c.in_ok-put_text.ensures c.in_ok-put_marked.ensures c.in_ok-put_text-2.ensures
