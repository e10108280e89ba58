use Rattle.bg_world.proofs.Lines.EventShapes.{no_kind}
use Rattle.bg_world.proofs.texts.event_lines.read_event.Goals as goal

pub returns-in-None : goal.returns-in-None
returns-in-None c = no_kind c.args.line.now c.in-None.ensures
