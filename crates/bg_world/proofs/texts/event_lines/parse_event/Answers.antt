use Rattle.bg_world.proofs.Lines.EventFaults.{only_event}
use Rattle.bg_world.proofs.texts.event_lines.parse_event.Goals as goal

pub returns-clause-only : goal.returns-clause-only
returns-clause-only c = only_event _ _ c.read_event.ensures
