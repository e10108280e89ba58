use Rattle.bg_ids.specs.PositionIds.{position_bits}
use Rattle.bg_ids.specs.MatchIds.{match_bits}
use Rattle.bg_ids.proofs.Lengths.{length-text}
use Rattle.bg_ids.proofs.laws.ids_are_whole.Goals as goal

pub returns : goal.returns
returns c = (λ b p. length-text 10 (position_bits b p), λ s. length-text 9 (match_bits s))
