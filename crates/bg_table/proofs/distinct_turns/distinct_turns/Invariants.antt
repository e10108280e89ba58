use Rattle.bg_table.proofs.Distinct.{IsSoFar}
use Rattle.bg_table.proofs.distinct_turns.distinct_turns.Given as goal

abbrev pub invariant-loop-index : goal.invariant-loop-index
invariant-loop-index l = IsSoFar l.board l.player l.turns.items l.index l.distinct.items l.boards.items
