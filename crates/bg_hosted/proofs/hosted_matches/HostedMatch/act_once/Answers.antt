use Rattle.std.proofs.Common.{refl}
use Rattle.bg_hosted.proofs.Going.{stays}
use Rattle.bg_hosted.specs.HostedMatches.{world_of}
use Rattle.bg_hosted.proofs.Whose.{said_failed}
use Rattle.bg_hosted.proofs.hosted_matches.HostedMatch.act_once.Goals as goal

pub returns-in_default : goal.returns-in_default
returns-in_default g c = record {
  outcome = c.happen.result;
  mid = world_of g.K.Keeper c.happen.new.self;
  chosen = c.happen.ensures;
  goes_on = stays _ _ _ refl;
  said = said_failed c.happen.result c.args.number (world_of g.K.Keeper c.happen.new.self) c.in_default.not-Chose;
}
