use Rattle.std.proofs.Common.{refl}
use Rattle.bg_hosted.proofs.Going.{goes_by_restart, stays}
use Rattle.bg_hosted.proofs.hosted_matches.HostedMatch.restart_if_down.Goals as goal

pub returns-then-is_none : goal.returns-then-is_none
returns-then-is_none g c = goes_by_restart _ _ _ _ c.restart.ensures

pub returns-else-is_none : goal.returns-else-is_none
returns-else-is_none g c = stays _ _ _ refl
