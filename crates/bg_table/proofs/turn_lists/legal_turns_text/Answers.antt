use Rattle.bg_table.proofs.Listed.{distinct_legal}
use Rattle.bg_table.proofs.turn_lists.legal_turns_text.Goals as goal

pub put_list-requires : goal.put_list-requires
put_list-requires c = rw c.deref.ensures.value (distinct_legal _ _ _ _ c.in_ok-turns.ensures)
