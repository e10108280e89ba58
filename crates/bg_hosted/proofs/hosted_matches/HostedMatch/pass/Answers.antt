use Rattle.bg_hosted.proofs.Going.{goes_by}
use Rattle.bg_hosted.specs.HostedMatches.{world_of}
use Rattle.bg_hosted.proofs.hosted_matches.HostedMatch.pass.Goals as goal

pub returns : goal.returns
returns g c = goes_by g.K.Keeper.is_honest (world_of g.K.Keeper c.args.self.now) c.args.event c.happen.result
    (world_of g.K.Keeper c.happen.new.self) c.requires c.happen.ensures
