use Rattle.std.proofs.Common.{refl}
use Rattle.bg_wire.specs.Entries.Codes.{referee}
use Rattle.bg_hosted.proofs.Going.{goes_by_restart, goes_further, stays}
use Rattle.bg_hosted.proofs.hosted_matches.HostedMatch.save_news.Goals as goal

pub returns-then-held-self : goal.returns-then-held-self
returns-then-held-self g c = stays _ _ _ refl

pub returns-in-SaveFault : goal.returns-in-SaveFault
returns-in-SaveFault g c = goes_further _ _ _ _ c.pass.ensures (goes_by_restart _ _ referee _ c.restart.ensures)
