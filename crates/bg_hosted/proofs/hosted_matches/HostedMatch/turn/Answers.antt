use Rattle.bg_hosted.proofs.Going.{goes_further}
use Rattle.bg_hosted.proofs.hosted_matches.HostedMatch.turn.Goals as goal

pub returns-then-saved : goal.returns-then-saved
returns-then-saved g c = goes_further _ _ _ _ c.take_all-taken.ensures (goes_further _ _ _ _ c.add_due-added.ensures (goes_further _ _ _ _ c.save_news-saved.ensures c.tell-told.ensures))

pub returns-else-saved : goal.returns-else-saved
returns-else-saved g c = goes_further _ _ _ _ c.take_all-taken.ensures (goes_further _ _ _ _ c.add_due-added.ensures (goes_further _ _ _ _ c.save_news-saved.ensures c.tell-told.ensures))
