use Rattle.bg_world.proofs.Lines.EventTexts.{one_event}
use Rattle.bg_world.proofs.texts.event_lines.event_texts_differ.Goals as goal

pub returns : goal.returns
returns c = one_event
