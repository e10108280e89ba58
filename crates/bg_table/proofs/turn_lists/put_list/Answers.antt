use Rattle.bg_table.proofs.Listed.{not_only, only_legal}
use Rattle.bg_table.proofs.turn_lists.put_list.Goals as goal

pub put_only-requires : goal.put_only-requires
put_only-requires c = rw c.steps.ensures.value (only_legal _ _ _ _ c.in-Some.ensures c.requires)

pub returns-in-Some : goal.returns-in-Some
returns-in-Some c = rw c.in-Some.ensures (rw c.steps.ensures.value at c.put_only.ensures)

pub returns-in-None : goal.returns-in-None
returns-in-None c = rw (not_only _ _ _ _ c.in-None.ensures) c.put_turns.ensures
