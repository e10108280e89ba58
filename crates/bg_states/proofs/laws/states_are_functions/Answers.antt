use Rattle.bg_states.proofs.OneText.{one_text}
use Rattle.bg_states.proofs.laws.states_are_functions.Goals as goal

pub returns : goal.returns
returns c = one_text
