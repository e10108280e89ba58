use Rattle.std.proofs.Common.{◌∙◌}
use Rattle.bg_hosted.proofs.Whose.{none_won}
use Rattle.bg_hosted.proofs.hosted_matches.is_won.Goals as goal

pub returns-in_default : goal.returns-in_default
returns-in_default c = (
  λ h. cc,
  λ won. absurd (none_won c.args.log.now c.standing.result c.standing.ensures.stands
      (λ player is. c.in_default.not-Over player (c.phase.ensures ∙ is)) won),
)
