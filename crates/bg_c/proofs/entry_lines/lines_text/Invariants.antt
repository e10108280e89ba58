use Rattle.bg_c.proofs.EntryLines.{HasSoFar}
use Rattle.bg_c.proofs.entry_lines.lines_text.Given as goal

abbrev pub invariant-loop-line : goal.invariant-loop-line
invariant-loop-line l = HasSoFar l.log l.skipped l.line l.text.items
