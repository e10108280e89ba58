use Rattle.bg_world.proofs.Lines.EventFaults.{no_player}
use Rattle.bg_world.proofs.texts.event_lines.read_choice.Goals as goal

pub returns-in_default : goal.returns-in_default
returns-in_default c = no_player c.args.rest.now c.in_default.ensures
