use Rattle.std.proofs.Common.{◌≡◌, ◌≤◌, max, drop}
use Rattle.bg_table.specs.TurnLists.{cell_width}
use Rattle.bg_table.proofs.turn_lists.cell_width.Given as goal

abbrev pub invariant-loop-index : goal.invariant-loop-index
invariant-loop-index l = record {
  so_far : max (cell_width l.board l.player (drop l.index l.turns)) l.width ≡ cell_width l.board l.player l.turns;
  some : 1 ≤ l.width;
}
