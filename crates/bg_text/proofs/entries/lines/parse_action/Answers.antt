use Rattle.bg_text.proofs.Spelling.ActionLines.{only_action}
use Rattle.bg_text.proofs.entries.lines.parse_action.Goals as goal

pub returns-clause-only : goal.returns-clause-only
returns-clause-only c = only_action _ _ c.read_action.ensures
