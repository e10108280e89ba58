use Rattle.bg_typed.proofs.OneMeaning.{means_legal}
use Rattle.bg_typed.proofs.laws.typed_turns_are_legal.Goals as goal

pub returns : goal.returns
returns c = means_legal
