use Rattle.bg_text.proofs.Spelling.EntryLines.{only_entry}
use Rattle.bg_text.proofs.entries.lines.parse_entry.Goals as goal

pub returns-clause-only : goal.returns-clause-only
returns-clause-only c = only_entry _ _ c.read_entry.ensures
