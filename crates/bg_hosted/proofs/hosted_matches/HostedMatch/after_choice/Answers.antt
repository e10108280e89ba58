use Rattle.std.proofs.Common.{refl}
use Rattle.bg_hosted.proofs.Going.{stays}
use Rattle.bg_hosted.proofs.hosted_matches.HostedMatch.after_choice.Goals as goal

pub returns-in-Err-clause-goes_on : goal.returns-in-Err-clause-goes_on
returns-in-Err-clause-goes_on g c = stays _ _ _ refl
