use Rattle.bg_text.proofs.Spelling.Starts.{match_weaker, begins, begins_not}
use Rattle.bg_text.proofs.entries.lines.rest_after.Goals as goal

pub returns : goal.returns
returns c = match_weaker _ _ _ _ _ (begins_not _ _) (λ x. begins _ _ _) c.strip_prefix.ensures.cases
