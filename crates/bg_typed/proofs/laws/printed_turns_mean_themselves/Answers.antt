use Rattle.bg_typed.proofs.PrintedTurns.{printed_means}
use Rattle.bg_typed.proofs.laws.printed_turns_mean_themselves.Goals as goal

pub returns : goal.returns
returns c = printed_means
