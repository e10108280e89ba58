use Rattle.bg_typed.proofs.OneMeaning.{means_one}
use Rattle.bg_typed.proofs.laws.typed_turns_mean_one.Goals as goal

pub returns : goal.returns
returns c = means_one
