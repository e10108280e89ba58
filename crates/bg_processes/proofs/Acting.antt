-- One acts after a record.
use Rattle.std.proofs.Common.{◌≡◌}
use Rattle.bg_match.specs.Match.{ActsAfter, Log}
use Rattle.bg_match.specs.declared.phases.Actor.{Actor}
use Rattle.bg_match.proofs.Legal.{one_actor}

pub another_acts : (log : Log) (a b : Actor) → ActsAfter log.terms log.entries a → (a ≡ b → ⊥)
    → ActsAfter log.terms log.entries b → ⊥
another_acts log a b acts differ also = differ (one_actor log.terms log.entries a b acts also)
